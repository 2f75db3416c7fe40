use Rattle.std.proofs.Common.{◌∙◌, subst, sym, Result, Ok}
use Rattle.std.proofs.lemmas.Result.{err_from_is_err_and}
use Rattle.tgap_model.specs.declared.fault.MapFault.{MapFault}
use Rattle.tgap_model.specs.declared.fault.MapFault.TheVariants.{BadLine}
use Rattle.tgap_model.specs.declared.failure.Or.TheVariants.{Fault}
use Rattle.tgap_model.specs.Base.{BaseMap}
use Rattle.area_listing.specs.Reading.{map_of}
use Rattle.line_forms.specs.Lines.{◌>>=◌}
use Rattle.map_forms.specs.Listing.{end_at}
use Rattle.plain_io.specs.Taking.{Refuses}
use Rattle.area_listing.proofs.Laws.{listing_from, no_border, no_end, all_read}
use Rattle.area_listing.proofs.read_checked.Goals as goal

pub returns-in_err-base : goal.returns-in_err-base
returns-in_err-base c =
    let p = err_from_is_err_and c.from_residual-in_err-base.result c.from_residual-in_err-base.ensures.1 in
    let m = map_of c.in_ok-parts.parts in
    let whole = listing_from c.args.bytes.now c.of-lines.result m c.read_map.new.lines c.new.result c.number.result c.of-lines.ensures c.in_ok-parts.ensures c.new.ensures c.number.ensures in
    rw (p.1, p.2) (subst (λ (r : Result BaseMap MapFault). Refuses c.in_err-base.field-0.0 r) (sym whole)
    (no_border c.new.result c.in_err-base.field-0.0 c.number.result (λ base. end_at c.read_map.new.lines >>= λ end. Ok base) c.in_err-base.ensures))

pub returns-in_err-read_end : goal.returns-in_err-read_end
returns-in_err-read_end c =
    let p = err_from_is_err_and c.from_residual-in_err-read_end.result c.from_residual-in_err-read_end.ensures.1 in
    let m = map_of c.in_ok-parts.parts in
    let whole = listing_from c.args.bytes.now c.of-lines.result m c.read_map.new.lines c.new.result c.number.result c.of-lines.ensures c.in_ok-parts.ensures c.new.ensures c.number.ensures in
    rw (p.1, p.2) (subst (λ (r : Result BaseMap MapFault). Refuses c.in_err-read_end.field-0.0 r) (sym whole)
    (no_end c.new.result c.in_ok-base.base c.in_err-read_end.field-0.0 (Fault (BadLine c.number.result)) c.number.result (end_at c.read_map.new.lines) c.in_ok-base.ensures c.in_err-read_end.ensures))

pub returns : goal.returns
returns c =
    let m = map_of c.in_ok-parts.parts in
    let whole = listing_from c.args.bytes.now c.of-lines.result m c.read_map.new.lines c.new.result c.number.result c.of-lines.ensures c.in_ok-parts.ensures c.new.ensures c.number.ensures in
    whole ∙ all_read c.new.result c.in_ok-base.base (Fault (BadLine c.number.result)) c.number.result (end_at c.read_map.new.lines) _ c.in_ok-base.ensures c.in_ok-read_end.ensures
