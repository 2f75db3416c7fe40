-- No connection yet, and one connection more.
use Rattle.std.proofs.Common.{◌≡◌, ◌+◌, ◌++◌, refl, List, [], ◌∷◌, length, Option, Some, None, ap, ap₂, ◌∙◌, arith, append_assoc, length-append, map, subst, sym}
use Rattle.std.proofs.lemmas.List.{map-append, append-nil}
use Rattle.std.specs.Prelude.{option_map}
use Rattle.plain_io.specs.declared.link.Link as OfLink
use Rattle.plain_io.specs.Doors.{Connections, HandsBack}
use Rattle.workers.specs.Served.{Visit, Talk, handed_back, talk_of, ServesDoor}

-- so many links more came, and those of these visits are back
abbrev with_more : {L : Type 0} → Connections L → List (Visit L) → Connections L
with_more all visits = record { came = all.came + length visits; back = all.back ++ map handed_back visits }

told_more : {L : Type 0} (told : Option (Connections L)) (visits : List (Visit L)) (visit : Visit L)
    → option_map (λ (all : Connections L). record { came = all.came; back = all.back ++ handed_back visit ∷ [] })
    (option_map (λ (all : Connections L). record { came = all.came + 1; back = all.back }) (option_map (λ (all : Connections L). with_more all visits) told))
    ≡ option_map (λ (all : Connections L). with_more all (visits ++ visit ∷ [])) told
told_more {L} None visits visit = refl
told_more {L} (Some all) visits visit =
    let came : all.came + length visits + 1 ≡ all.came + length (visits ++ visit ∷ []) = simp length-append (omega arith) in
    let back : (all.back ++ map handed_back visits) ++ handed_back visit ∷ [] ≡ all.back ++ map handed_back (visits ++ visit ∷ []) =
    append_assoc all.back (map handed_back visits) (handed_back visit ∷ [])
    ∙ ap (λ xs. all.back ++ xs) (sym (map-append handed_back visits (visit ∷ []))) in
    ap₂ (λ n xs. Some (record { came = n; back = xs })) came back

-- no link came yet
pub none_yet : {L : Type 0} (link : OfLink.Ghosts L) (told : Option (Connections L)) (P : List Talk → Type 0) → P [] → ServesDoor link told told P
none_yet link None P none = record { visits = []; back = refl; right = none }
none_yet {L} link (Some all) P none =
    let came : all.came ≡ all.came + length {A = Visit L} [] = omega arith in
    record { visits = []; back = ap₂ (λ n xs. Some (record { came = n; back = xs })) came (sym (append-nil all.back)); right = none }

-- a link came, was served and is back
pub one_more : {L : Type 0} (link : OfLink.Ghosts L) (told before came now : Option (Connections L)) (P Q : List Talk → Type 0) (visit : Visit L)
    → ServesDoor link told before P → came ≡ option_map (λ all. record { came = all.came + 1; back = all.back }) before
    → HandsBack came now visit.left visit.end
    → ((talks : List Talk) → P talks → Q (talks ++ talk_of link visit ∷ [])) → ServesDoor link told now Q
one_more {L} link told before came now P Q visit s arrived back right = record {
  visits = s.visits ++ visit ∷ [];
  back = back
      ∙ ap (option_map (λ (all : Connections L). record { came = all.came; back = all.back ++ handed_back visit ∷ [] }))
      (arrived ∙ ap (option_map (λ (all : Connections L). record { came = all.came + 1; back = all.back })) s.back)
      ∙ told_more told s.visits visit;
  right = subst Q (sym (map-append (talk_of link) s.visits (visit ∷ []))) (right (map (talk_of link) s.visits) s.right);
}
