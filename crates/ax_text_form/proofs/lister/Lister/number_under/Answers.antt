use Rattle.std.proofs.Common.{length, take, ◌∙◌, ap}
use Rattle.ax_text_form.proofs.Pieces.{last_put, named_put}
use Rattle.ax_text_form.proofs.lister.Lister.number_under.Goals as goal

pub returns : goal.returns
returns c =
    let place = c.args.place.now in
    last_put c.named_number.result c.named_number.ensures.appended (λ h. named_put c.args.self.now.out.octets c.named_number.new.self.octets place.path.now place.name.now c.padded.result.now (length c.octets.result.now) c.args.number
    (ap (λ xs. take (length xs) c.padded.result.now) c.octets.ensures.octets ∙ c.padded.ensures.front) h)
