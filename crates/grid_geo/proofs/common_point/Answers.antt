-- The code follows the definition, of which the laws are proved.
use Rattle.std.proofs.Common.{◌≡◌, Some, None, sym, ◌∙◌}
use Rattle.tgap_model.specs.Segment.{common_point}
use Rattle.grid_geo.proofs.CommonPoint.{common_point_found, common_point_none, none_in_common, permitted_in_common, forbidden_in_common}
use Rattle.grid_geo.proofs.common_point.Goals as goal

-- no point is in both
none_is : (c : goal.After-from_residual) → common_point c.args.s c.args.t c.args.shared ≡ None
none_is c = none_in_common c.args.s c.args.t c.args.shared (sym c.any_common.ensures.value ∙ c.in_err-p.was)

-- a point that is in both is permitted
permitted_is : (c : goal.Then-is_permitted) → common_point c.args.s c.args.t c.args.shared ≡ None
permitted_is c = permitted_in_common c.args.s c.args.t c.args.shared c.in_ok-p.p (sym c.any_common.ensures.value ∙ c.in_ok-p.was) (sym c.is_permitted.ensures ∙ c.if-is_permitted.true)

-- a point that is in both is not permitted
forbidden_is : (c : goal.Else-is_permitted) → common_point c.args.s c.args.t c.args.shared ≡ Some c.in_ok-p.p
forbidden_is c = forbidden_in_common c.args.s c.args.t c.args.shared c.in_ok-p.p (sym c.any_common.ensures.value ∙ c.in_ok-p.was) (sym c.is_permitted.ensures ∙ c.if-is_permitted.false)

pub returns-in_err-p-clause-value : goal.returns-in_err-p-clause-value
returns-in_err-p-clause-value c = c.from_residual.ensures ∙ sym (none_is c)

pub returns-in_err-p-clause-none : goal.returns-in_err-p-clause-none
returns-in_err-p-clause-none c = λ e p h. common_point_none c.args.s c.args.t c.requires.apart c.args.shared (none_is c) p h

pub returns-then-is_permitted-clause-value : goal.returns-then-is_permitted-clause-value
returns-then-is_permitted-clause-value c = sym (permitted_is c)

pub returns-then-is_permitted-clause-none : goal.returns-then-is_permitted-clause-none
returns-then-is_permitted-clause-none c = λ e p h. common_point_none c.args.s c.args.t c.requires.apart c.args.shared (permitted_is c) p h

pub returns-else-is_permitted-clause-value : goal.returns-else-is_permitted-clause-value
returns-else-is_permitted-clause-value c = sym (forbidden_is c)

pub returns-else-is_permitted-clause-found : goal.returns-else-is_permitted-clause-found
returns-else-is_permitted-clause-found c = common_point_found c.args.s c.args.t c.requires.apart c.args.shared c.in_ok-p.p (forbidden_is c)
