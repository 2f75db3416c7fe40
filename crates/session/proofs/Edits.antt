-- What becomes of a batch of edits.
use Rattle.std.proofs.Common.{◌≡◌, ℕ, ◌+◌, ◌<◌, ◌≤◌, Bool, List, [], ◌∷◌, length, Option, Some, None, Result, Ok, Err, IsSome, IfOk, refl, sym, ap, ◌∙◌, subst, arith, slice_get, codes, option_map}
use Rattle.std.specs.Arc.{arc_value}
use Rattle.std.specs.Option.{option_and_then}
use Rattle.tgap_model.specs.declared.fault.MapFault.{MapFault}
use Rattle.tgap_model.specs.Base.{BaseMap}
use Rattle.tgap_model.specs.Partition.{map_fault}
use Rattle.edit_laws.specs.Edits.{edited}
use Rattle.line_forms.specs.Texts.{line, fault_text}
use Rattle.http_face.specs.declared.request.Route.TheVariants.{Edit as EditRoute}
use Rattle.session.specs.declared.row.Row.TheVariants.{Refused, Published, Stale, Full, Unkept, KeeperFull}
use Rattle.version_store.specs.declared.pin.Pin.{Pin}
use Rattle.map_version.specs.declared.version.Version.{Version}
use Rattle.session.specs.declared.turn.Turned.{Turned}
use Rattle.session.specs.Items.{Route as RouteAsked}
use Rattle.session.specs.Answers.{plain, said, numbered, refusal, edit_fault_words}
use Rattle.session.specs.Outcomes.{IsGoodEdit, edit_answer, sent}
use Rattle.session.specs.Versions.{Seen, Continues, IsPin}
use Rattle.version_store.specs.declared.press.fail.PublishFail.{PublishFail}
use Rattle.version_store.specs.declared.press.fail.PublishFail.TheVariants as press
use Rattle.session.specs.Turns.{IsTurned, IsCommitRefused}
use Rattle.session.proofs.Kept.{pin_kept, no_shorter}

-- an edit that makes a sound map of the version that is pinned
good : (before now : Seen) (pin : Pin Version) (made : BaseMap) (batch : List ℕ) → IsPin before.history pin → Continues before now
    → edited (arc_value pin.held).built batch ≡ Ok made → map_fault made ≡ None
    → IsGoodEdit now.history pin.number (RouteAsked EditRoute batch) made
good before now pin made batch p c e f = record {
  batch = batch;
  is_edit = refl;
  base = (arc_value pin.held).built;
  pinned = (pin_kept before now pin c p).there;
  outcome = e;
  sound = f;
}

pub published_turn : (before now : Seen) (pin : Pin Version) (made : BaseMap) (batch : List ℕ) (close : Bool) (reply : List ℕ)
    → IsPin before.history pin → Continues before now → edited (arc_value pin.held).built batch ≡ Ok made → map_fault made ≡ None
    → slice_get now.history (pin.number + 1) ≡ Some made → slice_get now.batches (pin.number + 1) ≡ Some batch
    → length before.history ≤ pin.number + 1 → pin.number + 1 < now.limit
    → reply ≡ sent (pin.number + 1) close (plain 200 (line (numbered (codes "published") (pin.number + 1))))
    → IsTurned before now pin.number (pin.number + 1) (RouteAsked EditRoute batch) close (record { number = pin.number + 1; row = Published; reply = reply })
published_turn before now pin made batch close reply p c e f there has newest room is = record {
  holds = λ known below. (made, good before now pin made batch p c e f, there, refl, omega arith, room);
  batch = (batch, refl, has);
  answer = said 200 (numbered (codes "published") (pin.number + 1));
  answered = refl;
  reply = is;
  moved = refl;
}

pub stale_turn : (before now : Seen) (pin : Pin Version) (made : BaseMap) (batch : List ℕ) (close : Bool) (reply : List ℕ) (n : ℕ)
    → IsPin before.history pin → Continues before now → edited (arc_value pin.held).built batch ≡ Ok made → map_fault made ≡ None
    → pin.number < n → n + 1 ≡ length now.history
    → reply ≡ sent pin.number close (plain 409 (line (numbered (codes "stale") n)))
    → IsTurned before now pin.number pin.number (RouteAsked EditRoute batch) close (record { number = n; row = Stale; reply = reply })
stale_turn before now pin made batch close reply n p c e f above newest is =
    let longer = no_shorter before now c in
    record {
      holds = λ known below. (made, good before now pin made batch p c e f, above, record { there = omega arith; news = omega arith });
      batch = tt;
      answer = said 409 (numbered (codes "stale") n);
      answered = refl;
      reply = is;
      moved = refl;
    }

pub full_turn : (before now : Seen) (pin : Pin Version) (made : BaseMap) (batch : List ℕ) (close : Bool) (reply : List ℕ) (n : ℕ)
    → IsPin before.history pin → Continues before now → edited (arc_value pin.held).built batch ≡ Ok made → map_fault made ≡ None
    → n ≡ now.limit → n ≡ pin.number + 1
    → reply ≡ sent pin.number close (plain 507 (line (numbered (codes "versions full") n)))
    → IsTurned before now pin.number pin.number (RouteAsked EditRoute batch) close (record { number = n; row = Full; reply = reply })
full_turn before now pin made batch close reply n p c e f limit next is = record {
  holds = λ known below. (made, good before now pin made batch p c e f, limit, next);
  batch = tt;
  answer = said 507 (numbered (codes "versions full") n);
  answered = refl;
  reply = is;
  moved = refl;
}

pub unkept_turn : (before now : Seen) (pin : Pin Version) (made : BaseMap) (batch : List ℕ) (close : Bool) (reply : List ℕ)
    → IsPin before.history pin → Continues before now → edited (arc_value pin.held).built batch ≡ Ok made → map_fault made ≡ None
    → reply ≡ sent pin.number close (plain 500 (line (codes "journal fault" ∷ [])))
    → IsTurned before now pin.number pin.number (RouteAsked EditRoute batch) close (record { number = pin.number; row = Unkept; reply = reply })
unkept_turn before now pin made batch close reply p c e f is = record {
  holds = λ known below. (made, good before now pin made batch p c e f, refl);
  batch = tt;
  answer = said 500 (codes "journal fault" ∷ []);
  answered = refl;
  reply = is;
  moved = refl;
}

pub keeper_full_turn : (before now : Seen) (pin : Pin Version) (made : BaseMap) (batch : List ℕ) (close : Bool) (reply : List ℕ)
    → IsPin before.history pin → Continues before now → edited (arc_value pin.held).built batch ≡ Ok made → map_fault made ≡ None
    → reply ≡ sent pin.number close (plain 507 (line (numbered (codes "journal full") 67108864)))
    → IsTurned before now pin.number pin.number (RouteAsked EditRoute batch) close (record { number = pin.number; row = KeeperFull; reply = reply })
keeper_full_turn before now pin made batch close reply p c e f is = record {
  holds = λ known below. (made, good before now pin made batch p c e f, refl);
  batch = tt;
  answer = said 507 (numbered (codes "journal full") 67108864);
  answered = refl;
  reply = is;
  moved = refl;
}

-- what the press answered
abbrev fail_of : {T : Type 0} → PublishFail → Result T PublishFail
fail_of fail = Err fail

-- what becomes of a version that is not published, by what the press answered
pub refused_commit : {T : Type 0} (before now : Seen) (pin : Pin Version) (made : BaseMap) (batch : List ℕ) (close : Bool) (fail : PublishFail) (t : Turned)
    → IsPin before.history pin → Continues before now → edited (arc_value pin.held).built batch ≡ Ok made → map_fault made ≡ None
    → ((n : ℕ) → fail_of {T = T} fail ≡ Err (press.Stale n) → (pin.number < n) × (n + 1 ≡ length now.history))
    → ((n : ℕ) → fail_of {T = T} fail ≡ Err (press.VersionsFull n) → (n ≡ now.limit) × (n ≡ pin.number + 1))
    → IsCommitRefused pin.number close fail t → IsTurned before now pin.number pin.number (RouteAsked EditRoute batch) close t
refused_commit before now pin made batch close (press.Stale n) t p c e f stale full is =
    let P : Turned → Type 0 = IsTurned before now pin.number pin.number (RouteAsked EditRoute batch) close in
    let s = stale n refl in
    subst P (sym is) (stale_turn before now pin made batch close _ n p c e f s.0 s.1 refl)
refused_commit before now pin made batch close (press.VersionsFull n) t p c e f stale full is =
    let P : Turned → Type 0 = IsTurned before now pin.number pin.number (RouteAsked EditRoute batch) close in
    let s = full n refl in
    subst P (sym is) (full_turn before now pin made batch close _ n p c e f s.0 s.1 refl)
refused_commit before now pin made batch close press.Unkept t p c e f stale full is =
    let P : Turned → Type 0 = IsTurned before now pin.number pin.number (RouteAsked EditRoute batch) close in
    subst P (sym is) (unkept_turn before now pin made batch close _ p c e f refl)
refused_commit before now pin made batch close (press.KeeperFull n) t p c e f stale full is =
    let P : Turned → Type 0 = IsTurned before now pin.number pin.number (RouteAsked EditRoute batch) close in
    subst P (sym is) (keeper_full_turn before now pin made batch close _ p c e f refl)
refused_commit before now pin made batch close press.Memory t p c e f stale full is = absurd is

-- a fact of what is given, from another
pub if_ok : {T E : Type 0} (r : Result T E) (P Q : T → Type 0) → ((t : T) → P t → Q t) → IfOk r P → IfOk r Q
if_ok (Ok t) P Q f p = f t p
if_ok (Err e) P Q f p = p

-- what tells why the batch is refused
refused_by : (seen : Seen) (pin : Pin Version) (batch text : List ℕ) → IsPin seen.history pin
    → refusal (arc_value pin.held).built batch ≡ Some text
    → option_and_then (λ m. edit_answer m (RouteAsked EditRoute batch)) (slice_get seen.history pin.number) ≡ Some (plain 422 text)
refused_by seen pin batch text p is =
    ap (option_and_then (λ m. edit_answer m (RouteAsked EditRoute batch))) p.there ∙ ap (option_map (plain 422)) is

some_is : {X : Type 0} (o : Option X) (x : X) → o ≡ Some x → IsSome o
some_is (Some y) x e = refl
some_is None x e = cc

refused_turn : (seen : Seen) (pin : Pin Version) (batch text : List ℕ) (close : Bool) (reply : List ℕ) → IsPin seen.history pin
    → refusal (arc_value pin.held).built batch ≡ Some text → reply ≡ sent pin.number close (plain 422 text)
    → IsTurned seen seen pin.number pin.number (RouteAsked EditRoute batch) close (record { number = pin.number; row = Refused; reply = reply })
refused_turn seen pin batch text close reply p is r =
    let e = refused_by seen pin batch text p is in
    record {
      holds = λ known below. (refl, some_is _ _ e);
      batch = tt;
      answer = plain 422 text;
      answered = e;
      reply = r;
      moved = refl;
    }

abbrev refusal_of : BaseMap → Result BaseMap (ℕ × ℕ) → Option (List ℕ)
refusal_of m r = elim r [ Err fault ↦ Some (line (edit_fault_words fault)) | Ok edited ↦ option_map fault_text (map_fault edited) ]

pub bad_batch_turn : (seen : Seen) (pin : Pin Version) (batch : List ℕ) (fault : ℕ × ℕ) (close : Bool) (reply : List ℕ) → IsPin seen.history pin
    → edited (arc_value pin.held).built batch ≡ Err fault → reply ≡ sent pin.number close (plain 422 (line (edit_fault_words fault)))
    → IsTurned seen seen pin.number pin.number (RouteAsked EditRoute batch) close (record { number = pin.number; row = Refused; reply = reply })
bad_batch_turn seen pin batch fault close reply p e r =
    refused_turn seen pin batch (line (edit_fault_words fault)) close reply p (ap (refusal_of (arc_value pin.held).built) e) r

pub bad_map_turn : (seen : Seen) (pin : Pin Version) (batch : List ℕ) (m : BaseMap) (fault : MapFault) (close : Bool) (reply : List ℕ) → IsPin seen.history pin
    → edited (arc_value pin.held).built batch ≡ Ok m → map_fault m ≡ Some fault → reply ≡ sent pin.number close (plain 422 (fault_text fault))
    → IsTurned seen seen pin.number pin.number (RouteAsked EditRoute batch) close (record { number = pin.number; row = Refused; reply = reply })
bad_map_turn seen pin batch m fault close reply p e f r =
    refused_turn seen pin batch (fault_text fault) close reply p (ap (refusal_of (arc_value pin.held).built) e ∙ ap (option_map fault_text) f) r
