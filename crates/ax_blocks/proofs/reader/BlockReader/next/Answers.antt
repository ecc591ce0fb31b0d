use Rattle.std.proofs.Common.{◌≡◌, refl, subst, arith, take}
use Rattle.std.proofs.lemmas.Grind.{common_steps}
use Rattle.ax_blocks.specs.Reader.{GivesBlock, raw_tree, ReaderState}
use Rattle.ax_format.specs.Blocks.{IsFramed}
use Rattle.ax_blocks.proofs.Ends.{gives_block, after_block, seen_block, none_kept}
use Rattle.ax_blocks.proofs.reader.BlockReader.next.Goals as goal

pub returns-in-Ok-Some : goal.returns-in-Ok-Some
returns-in-Ok-Some g c =
    let e : c.deref.result.now ≡ c.next_length.new.buffer = grind (arith, common_steps) in
    let framed : IsFramed c.raw_block.result.category c.raw_block.result.body.now (take c.in-Ok-Some.length c.next_length.new.buffer)
    = subst (λ l. IsFramed c.raw_block.result.category c.raw_block.result.body.now (take c.in-Ok-Some.length l)) e c.raw_block.ensures.framed in
    let buffered = rw c.in-Ok-Some.field-0-is at c.in-Ok-Some.ensures.block in
    let given : GivesBlock c.self.inside.limit c.self.inside.given (g.S.Source.left c.args.source.now) (g.S.Source.left c.next_length.new.source) (g.S.Source.taken c.args.source.now) (g.S.Source.taken c.next_length.new.source) (raw_tree c.raw_block.result)
    = gives_block c.self.inside.limit c.self.inside.given _ _ _ _ c.next_length.new.buffer c.in-Ok-Some.length (raw_tree c.raw_block.result) c.self.invariant.1 buffered framed c.raw_block.ensures.count in
    let seen : ReaderState = record { limit = c.self.inside.limit; given = c.self.inside.given; ended = c.self.inside.ended } in
    let is : seen ≡ c.args.self.now = c.self.view_is in (
      (refl, (λ _. tt), after_block c.args.self.now seen c.in-Ok-Some.length c.raw_block.result is c.in-None.is buffered.within c.raw_block.ensures.count),
      record {
        after = tt;
        again = none_kept _ c.args.self.now seen is c.in-None.is;
        block = λ _. seen_block c.args.self.now seen _ _ _ _ _ is given;
        end = λ _. tt;
        past_limit = λ _. tt;
        fault = λ _. tt;
        rose = λ _. tt;
        never_falls = c.in-Ok-Some.ensures.never_falls;
        once = c.in-Ok-Some.ensures.once;
        quiet = c.in-Ok-Some.ensures.quiet;
      },
    )
