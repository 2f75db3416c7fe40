-- The tree of a JSON text, and its arrays as lists.
use Rattle.std.proofs.Common.{◌≡◌, refl, ℕ, List, [], ◌∷◌, true, false, Bool, None, if◌then◌else◌}
use Rattle.std.specs.Str.{is_utf8, IsUtf8}
use Rattle.std.proofs.lemmas.Str.{IsUtf8-from_is_utf8, is_utf8-from_IsUtf8}
use Rattle.serde_json.specs.Data.{Data}
use Rattle.serde_json.specs.Read.{read}
use Rattle.serde_json.specs.View.{items_of as items_from}
use Rattle.line_forms.specs.Json.{tree, list_of}

-- the items of an array that is made of a list
pub list_of_items : (ds : List Data) → list_of (items_from ds) ≡ ds
list_of_items [] = refl
list_of_items (d ∷ ds) = rw (list_of_items ds) refl

-- what is read of UTF-8 is the tree
pub tree_read : (bytes : List ℕ) → IsUtf8 bytes → read bytes ≡ tree bytes
unfolding tree
tree_read bytes utf8 = rw (is_utf8-from_IsUtf8 bytes utf8) refl

-- bytes of which none is read where they are UTF-8 have no tree
pub tree_none : (bytes : List ℕ) → (IsUtf8 bytes → read bytes ≡ None) → tree bytes ≡ None
unfolding tree
tree_none bytes none = by_test (is_utf8 bytes) refl
  where
    by_test : (b : Bool) → is_utf8 bytes ≡ b → (if b then read bytes else None) ≡ None
    by_test true is = none (IsUtf8-from_is_utf8 bytes is)
    by_test false is = refl
