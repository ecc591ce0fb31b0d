use Rattle.ax_tokens.proofs.Once.{bad_byte_once, too_deep_once, one_kind}
use Rattle.ax_laws.proofs.tokens.fault_once.Goals as goal

pub returns : goal.returns
returns c = record { bad_byte = bad_byte_once; too_deep = too_deep_once; one_kind = one_kind }
