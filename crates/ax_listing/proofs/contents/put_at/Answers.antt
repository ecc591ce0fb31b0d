use Rattle.ax_listing.proofs.contents.put_at.Goals as goal

pub element_at-requires-clause-content : goal.element_at-requires-clause-content
element_at-requires-clause-content c = c.content_of-found.ensures.listable c.args.element.width c.args.element.listable
