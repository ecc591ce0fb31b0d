use Rattle.ax_text_form.proofs.Pieces.{last_put}
use Rattle.ax_text.proofs.LinePaths.{count_within, count_put}
use Rattle.ax_text.proofs.paths.list_count.Goals as goal

pub set_count-requires : goal.set_count-requires
set_count-requires c = count_within c.args.lister.now.out.octets c.none_of.new.self.out.octets c.args.path.now c.args.word.now c.len-end.result c.in_ok-none_of.ensures c.len-end.ensures

pub returns : goal.returns
returns c =
    last_put c.set_count.result c.set_count.ensures (λ h. count_put c.args.lister.now.out.octets c.none_of.new.self.out.octets c.args.path.now c.args.word.now c.len-end.result c.in_ok-none_of.ensures c.len-end.ensures c.args.count c.set_count.new.self.out.octets h)
