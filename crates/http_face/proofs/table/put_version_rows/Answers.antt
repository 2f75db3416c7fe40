-- Each row has its place after those before it.
use Rattle.std.proofs.Common.{refl}
use Rattle.matchit.proofs.OnLiterals.{matchit_on_literals}
use Rattle.http_face.specs.Table.{version_rows}
use Rattle.http_face.proofs.table.put_version_rows.Goals as goal

pub returns : goal.returns
unfolding matchit_on_literals version_rows
returns c = rw (c.in_ok-put_in-4.ensures, c.in_ok-put_in-3.ensures, c.in_ok-put_in-2.ensures, c.in_ok-put_in.ensures, c.requires) refl

pub put_in-requires : goal.put_in-requires
unfolding matchit_on_literals
put_in-requires c = rw (c.requires) refl

pub put_in-requires-2 : goal.put_in-requires-2
unfolding matchit_on_literals
put_in-requires-2 c = rw (c.in_ok-put_in.ensures, c.requires) refl

pub put_in-requires-3 : goal.put_in-requires-3
unfolding matchit_on_literals
put_in-requires-3 c = rw (c.in_ok-put_in-2.ensures, c.in_ok-put_in.ensures, c.requires) refl

pub put_in-requires-4 : goal.put_in-requires-4
unfolding matchit_on_literals
put_in-requires-4 c = rw (c.in_ok-put_in-3.ensures, c.in_ok-put_in-2.ensures, c.in_ok-put_in.ensures, c.requires) refl
