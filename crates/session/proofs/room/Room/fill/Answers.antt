-- What was held is held, and what is taken stands behind it.
use Rattle.std.proofs.Common.{◌≡◌, ◌+◌, ◌∙◌, ap, length, slice_range, arith}
use Rattle.std.proofs.lemmas.List.{with_items_is}
use Rattle.session.proofs.Ranges.{still_held, held_with_more}
use Rattle.session.proofs.room.Room.fill.Goals as goal

pub returns-in-Ok-clause-bytes : goal.returns-in-Ok-clause-bytes
returns-in-Ok-clause-bytes g c =
    let len : length c.take_into-taken.new.buffer ≡ c.self.inside.bytes.len = omega arith in
    let from = c.make_way-start.result.1 in (
      slice_range c.take_into-taken.new.buffer from (from + c.in-Ok.n),
      c.in-Ok.ensures.bytes,
      held_with_more c.self.inside.bytes.items c.make_way-start.new.buffer c.take_into-taken.new.buffer _ c.args.self.now _ _ _ _ c.in-Ok.n
          c.self.view_is (c.make_way-start.ensures.bytes ∙ ap (λ xs. slice_range xs c.self.inside.start c.self.inside.end) c.as_mut_slice-buffer.ensures.value)
          c.make_way-start.ensures.order c.in-Ok.ensures.front (with_items_is c.self.inside.bytes c.take_into-taken.new.buffer len),
    )

pub returns-in-Err-clause-failed : goal.returns-in-Err-clause-failed
returns-in-Err-clause-failed g c =
    let len : length c.take_into-taken.new.buffer ≡ c.self.inside.bytes.len = omega arith in (
      c.in-Err.ensures.failed,
      still_held c.self.inside.bytes.items c.make_way-start.new.buffer c.take_into-taken.new.buffer _ c.args.self.now _ _ _ _
          c.self.view_is (c.make_way-start.ensures.bytes ∙ ap (λ xs. slice_range xs c.self.inside.start c.self.inside.end) c.as_mut_slice-buffer.ensures.value)
          c.make_way-start.ensures.order c.in-Err.ensures.front (with_items_is c.self.inside.bytes c.take_into-taken.new.buffer len),
    )
