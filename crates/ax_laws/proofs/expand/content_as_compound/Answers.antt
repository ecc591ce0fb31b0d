use Rattle.ax_expand.proofs.Canonical.{by_fx, content_shape}
use Rattle.ax_laws.proofs.expand.content_as_compound.Goals as goal

pub returns-clause-spelled : goal.returns-clause-spelled
returns-clause-spelled c = by_fx

pub returns-clause-shape : goal.returns-clause-shape
returns-clause-shape c = content_shape

pub returns-clause-fails : goal.returns-clause-fails
returns-clause-fails c = λ ss b p e. ((λ h. h), (λ h. h))
