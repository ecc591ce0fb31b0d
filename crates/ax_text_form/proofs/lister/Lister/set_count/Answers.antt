use Rattle.ax_text_form.proofs.Pieces.{digit_set}
use Rattle.ax_text_form.proofs.lister.Lister.set_count.Goals as goal

pub returns-then-count-lt10 : goal.returns-then-count-lt10
returns-then-count-lt10 c = digit_set c.args.self.now.out.octets c.replace.new.self.octets c.args.end c.args.count c.requires.0 c.requires.1 c.if-count-lt10.true c.replace.ensures.replaced
