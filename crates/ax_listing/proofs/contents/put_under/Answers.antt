use Rattle.ax_listing.proofs.contents.put_under.Goals as goal

pub element_under-requires-clause-content : goal.element_under-requires-clause-content
element_under-requires-clause-content c = c.content_of-found.ensures.listable c.args.element.width c.args.element.listable
