-- What is kept is right over the list of versions, and over a longer one.
use Rattle.std.proofs.Common.{◌≡◌, ◌∙◌, ◌++◌, ℕ, Bool, List, [], Option, Some, None, IsSome, refl, sym, ap, subst, slice_get}
use Rattle.std.specs.Arc.{arc_value}
use Rattle.std.specs.List.{Contains}
use Rattle.std.specs.Option.{option_and_then}
use Rattle.std.proofs.lemmas.List.Elements.{All-nil, All-same, All-weaker, All-contains}
use Rattle.tgap_model.specs.Base.{BaseMap}
use Rattle.http_face.specs.declared.request.Route.{Route}
use Rattle.version_store.specs.declared.pin.Pin.{Pin}
use Rattle.map_version.specs.declared.version.Version.{Version}
use Rattle.session.specs.declared.answer.Answer.{Answer}
use Rattle.session.specs.declared.kept_texts.KeptText.{KeptText}
use Rattle.session.specs.declared.row.Row.TheVariants.{Read}
use Rattle.session.specs.Items.{Route as RouteAsked}
use Rattle.session.specs.Answers.{route_answer, read_answer}
use Rattle.session.specs.Outcomes.{sent}
use Rattle.session.specs.Versions.{Seen, Continues, IsPin}
use Rattle.session.specs.Turns.{IsTurned}
use Rattle.session.specs.Keeping.{IsKept, AreKept}
use Rattle.session.proofs.Kept.{get_longer}

-- none is kept
pub none_kept : (history : List BaseMap) (kept : List KeptText) → kept ≡ [] → AreKept history kept
none_kept history kept e = All-same (IsKept history) kept [] e (All-nil (IsKept history))

-- more versions were seen
kept_longer : (history more : List BaseMap) (kept : KeptText) → IsKept history kept → IsKept (history ++ more) kept
kept_longer history more kept (m, answer, there, is, text) = (m, answer, get_longer history more kept.key.number m there, is, text)

pub are_kept_longer : (before now : Seen) (kept : List KeptText) → Continues before now → AreKept before.history kept → AreKept now.history kept
are_kept_longer before now kept c all =
    let A : List BaseMap → Type 0 = λ h. AreKept h kept in
    subst A (sym c.history.1)
    (All-weaker (IsKept before.history) (IsKept (before.history ++ c.history.0)) (kept_longer before.history c.history.0) kept all)

some_same : {X : Type 0} (x y : X) → Some x ≡ Some y → x ≡ y
some_same x y e = cc

-- what is kept for the version that is pinned is the reply with its answer
pub found_reply : (history : List BaseMap) (pin : Pin Version) (asked : Route) (close : Bool) (kept : List KeptText) (reply : List ℕ)
    → IsPin history pin → AreKept history kept
    → Contains kept (record { key = record { number = pin.number; asked = asked; close = close }; text = reply })
    → (answer : Answer) × (route_answer pin.number (arc_value pin.held).built asked ≡ Some answer) × (reply ≡ sent pin.number close answer)
found_reply history pin asked close kept reply p all there =
    let is = All-contains (IsKept history) kept _ all there in
    let same : is.0 ≡ (arc_value pin.held).built = some_same is.0 (arc_value pin.held).built (sym is.2 ∙ p.there) in
    (is.1, ap (λ b. route_answer pin.number b asked) (sym same) ∙ is.3, is.4)

-- the reply with the answer of the version that is pinned may be kept
pub reply_kept : (history : List BaseMap) (pin : Pin Version) (asked : Route) (close : Bool) (answer : Answer) (reply : List ℕ)
    → IsPin history pin → route_answer pin.number (arc_value pin.held).built asked ≡ Some answer → reply ≡ sent pin.number close answer
    → IsKept history (record { key = record { number = pin.number; asked = asked; close = close }; text = reply })
reply_kept history pin asked close answer reply p is text = ((arc_value pin.held).built, answer, p.there, is, text)

some_is : {X : Type 0} (o : Option X) (x : X) → o ≡ Some x → IsSome o
some_is (Some y) x e = refl
some_is None x e = cc

-- it is answered from the version that is pinned
pub read_turn : (seen : Seen) (pin : Pin Version) (asked : Route) (body : List ℕ) (close : Bool) (answer : Answer) (reply : List ℕ)
    → IsPin seen.history pin → route_answer pin.number (arc_value pin.held).built asked ≡ Some answer → reply ≡ sent pin.number close answer
    → IsTurned seen seen pin.number pin.number (RouteAsked asked body) close (record { number = pin.number; row = Read; reply = reply })
read_turn seen pin asked body close answer reply p is r =
    let e : option_and_then (λ m. read_answer pin.number m (RouteAsked asked body)) (slice_get seen.history pin.number) ≡ Some answer =
    ap (option_and_then (λ m. read_answer pin.number m (RouteAsked asked body))) p.there ∙ is in
    record {
      holds = λ known below. (refl, some_is _ _ e);
      batch = tt;
      answer = answer;
      answered = e;
      reply = r;
      moved = refl;
    }
