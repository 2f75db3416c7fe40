-- Each row has its place after those before it.
use Rattle.std.proofs.Common.{codes, refl, sym, ap, ◌∙◌, subst}
use Rattle.matchit.proofs.OnLiterals.{matchit_on_literals}
use Rattle.http_face.specs.Table.{HasPlace, the_rows, version_rows, with_row}
use Rattle.http_face.specs.declared.request.Resource.TheVariants as resource
use Rattle.http_face.proofs.TableLaws.{window_packet_place}
use Rattle.http_face.proofs.table.put_map_rows.Goals as goal

pub returns : goal.returns
unfolding the_rows
returns c = c.in_ok-put_in-5.ensures
    ∙ ap (with_row (codes "/window-packet/{from}/{to}/{x0}/{y0}/{x1}/{y1}") resource.WindowPacket) (c.in_ok-put_in-4.ensures
    ∙ ap (with_row (codes "/topo/{step}") resource.Topo) (c.in_ok-put_in-3.ensures
    ∙ ap (with_row (codes "/window/{step}/{x0}/{y0}/{x1}/{y1}") resource.Window) (c.in_ok-put_in-2.ensures
    ∙ ap (with_row (codes "/packet/{from}/{to}") resource.Packet) (c.in_ok-put_in.ensures
    ∙ ap (with_row (codes "/slice/{step}") resource.Slice) (c.requires)))))

pub put_in-requires : goal.put_in-requires
unfolding matchit_on_literals version_rows
put_in-requires c = rw (c.requires) refl

pub put_in-requires-2 : goal.put_in-requires-2
unfolding matchit_on_literals version_rows
put_in-requires-2 c = rw (c.in_ok-put_in.ensures, c.requires) refl

pub put_in-requires-3 : goal.put_in-requires-3
unfolding matchit_on_literals version_rows
put_in-requires-3 c = rw (c.in_ok-put_in-2.ensures, c.in_ok-put_in.ensures, c.requires) refl

pub put_in-requires-4 : goal.put_in-requires-4
unfolding matchit_on_literals version_rows
put_in-requires-4 c = rw (c.in_ok-put_in-3.ensures, c.in_ok-put_in-2.ensures, c.in_ok-put_in.ensures, c.requires) refl

pub put_in-requires-5 : goal.put_in-requires-5
put_in-requires-5 c = subst (HasPlace (codes "/window-packet/{from}/{to}/{x0}/{y0}/{x1}/{y1}")) (sym (c.in_ok-put_in-4.ensures
    ∙ ap (with_row (codes "/topo/{step}") resource.Topo) (c.in_ok-put_in-3.ensures
    ∙ ap (with_row (codes "/window/{step}/{x0}/{y0}/{x1}/{y1}") resource.Window) (c.in_ok-put_in-2.ensures
    ∙ ap (with_row (codes "/packet/{from}/{to}") resource.Packet) (c.in_ok-put_in.ensures
    ∙ ap (with_row (codes "/slice/{step}") resource.Slice) (c.requires)))))) window_packet_place
