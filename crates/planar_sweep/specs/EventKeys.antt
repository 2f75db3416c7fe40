-- The keys of the events, by which they are sorted, and where the line passes from one segment to another that begins where it ends.
use Rattle.std.specs.Prelude.{ℕ, ◌+◌, ◌*◌, ◌-◌, nat_lt, Bool, ◌&&◌, ℤ, pos, ◌+ℤ◌, unsigned_abs, List, [], ◌∷◌, ◌++◌, length, flat_map, if◌then◌else◌}
use Rattle.std.specs.List.{range_with_len}
use Rattle.tgap_model.specs.declared.geometry.Seg.{Seg}
use Rattle.tgap_model.specs.declared.segment.LabelledSegment.{LabelledSegment}
use Rattle.tgap_model.specs.Base.{same_point}
use Rattle.tgap_model.specs.Partition.{follows}
use Rattle.planar_sweep.specs.declared.events.Link.{Link}
use Rattle.planar_sweep.specs.Over.{is_slanted}
use Rattle.planar_sweep.specs.Times.{time_in, time_out}
use Rattle.planar_sweep.specs.Ends.{segment_at}
use Rattle.planar_sweep.specs.Rows.{seg_at}

-- by its time, its kind, and a number
abbrev pub key_of : ℤ → ℕ → ℕ → ℕ
key_of time kind n = (unsigned_abs (time +ℤ pos 17179869184) * 4 + kind) * 134217728 + n

-- one begins where the other ends, and both go to the right
abbrev pub leads : List Seg → ℕ → ℕ → Bool
leads segs m n = is_slanted (seg_at segs m) && (is_slanted (seg_at segs n) && same_point (seg_at segs m).b (seg_at segs n).a)

-- the segment behind one in the list is the next one of its arc
abbrev pub is_followed : List LabelledSegment → ℕ → Bool
is_followed segments n = nat_lt (n + 1) (length segments) && follows (segment_at segments n) (segment_at segments (n + 1))

-- the line passes from a segment to that one, or from that one back
abbrev pub is_onward : List LabelledSegment → List Seg → ℕ → Bool
is_onward segments segs n = is_followed segments n && leads segs n (n + 1)

abbrev pub is_back : List LabelledSegment → List Seg → ℕ → Bool
is_back segments segs n = is_followed segments n && leads segs (n + 1) n

abbrev pub link_at : List LabelledSegment → List Seg → ℕ → Link
link_at segments segs n = record { onward = is_onward segments segs n; back = is_back segments segs n }

-- the link of the segment before it in the list
abbrev pub link_before : List LabelledSegment → List Seg → ℕ → Link
link_before segments segs n = record { onward = nat_lt 0 n && is_onward segments segs (n - 1); back = nat_lt 0 n && is_back segments segs (n - 1) }

-- the keys of its events, but those in which the segment before it takes part
abbrev pub coming_keys : Seg → ℕ → Link → Link → List ℕ
coming_keys s n before link = if before.onward then [] else if link.back then [] else key_of (time_in s) 1 n ∷ []

abbrev pub leaving_keys : Seg → ℕ → Link → Link → List ℕ
leaving_keys s n before link = if link.onward then [] else if before.back then [] else key_of (time_out s) 0 n ∷ []

abbrev pub onward_keys : Seg → ℕ → Link → List ℕ
onward_keys s n link = if link.onward then key_of (time_out s) 2 n ∷ [] else []

abbrev pub back_keys : Seg → ℕ → Link → List ℕ
back_keys s n link = if link.back then key_of (time_in s) 3 n ∷ [] else []

abbrev pub keys_at : Seg → ℕ → Link → Link → List ℕ
keys_at s n before link = ((coming_keys s n before link ++ leaving_keys s n before link) ++ onward_keys s n link) ++ back_keys s n link

abbrev pub own_keys : List LabelledSegment → List Seg → ℕ → List ℕ
own_keys segments segs n = keys_at (seg_at segs n) n (link_before segments segs n) (link_at segments segs n)

-- as they are listed
abbrev pub listed_keys : List LabelledSegment → List Seg → List ℕ
listed_keys segments segs = flat_map (own_keys segments segs) (range_with_len 0 (length segs))
