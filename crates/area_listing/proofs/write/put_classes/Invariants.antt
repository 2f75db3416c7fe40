use Rattle.std.proofs.Common.{◌≡◌, ◌++◌, ◌-◌, ◌*◌, length, drop}
use Rattle.line_forms.specs.Texts.{lines}
use Rattle.map_forms.specs.Listing.{class_rows}
use Rattle.area_listing.proofs.write.put_classes.Given as goal

-- what is put, and the lines of the classes that are left, with the compatibilities that are left
abbrev pub invariant-loop-class : goal.invariant-loop-class
invariant-loop-class l = record {
  text : l.out ++ lines (class_rows (length l.weights) l.class (drop l.class l.weights) l.rest) ≡ l.fn.out ++ lines (class_rows (length l.weights) 0 l.weights l.compat);
  table : length l.rest ≡ (length l.weights - l.class) * length l.weights;
}
