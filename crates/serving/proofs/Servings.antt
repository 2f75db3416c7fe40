-- What comes of serving a map, from what each step of it does.
use Rattle.std.proofs.Common.{replicate, ◌≡◌, ◌≢◌, ℕ, zero, suc, ◌+◌, ◌<◌, ◌≤◌, ◌⊎◌, Bool, true, inl, inr, List, [], ◌∷◌, ◌++◌, length, take, drop, map, reverse, All, Option, Some, None, refl, sym, ap, ◌∙◌, subst, arith, append_assoc}
use Rattle.std.specs.Prelude.{◌↔◌, Result, Ok, Err, IfOk, OnOk, option_map, slice_get, ⊤}
use Rattle.std.proofs.Math.Seq.{take-append_seam}
use Rattle.std.proofs.lemmas.List.{append-nil, length-map, length-append, reverse-append}
use Rattle.std.proofs.lemmas.List.Elements.{All-cons, All-nil, All-head, All-tail, All-append, All-map, All-weaker, All-drop}
use Rattle.tgap_model.specs.Base.{BaseMap}
use Rattle.tgap_model.specs.Partition.{IsPartition, base_segments}
use Rattle.plain_io.specs.declared.link.Link as OfLink
use Rattle.plain_io.specs.Doors.{Connections}
use Rattle.tgap_model.specs.Faults.{Rises, Rose}
use Rattle.plain_io.specs.Harbours.{Doors, NoMoreBack}
use Rattle.plain_io.specs.Puts.{Appends, AppendsFront}
use Rattle.workers.specs.Closing.{MayTakeBack, TakesAllBack, OneFailed, NoneFailed}
use Rattle.workers.specs.Each.{EachBecame, OneBecame}
use Rattle.map_version.specs.declared.version.Version.{Version}
use Rattle.workers.specs.Served.{ServesDoor}
use Rattle.plain_io.specs.Doors.{NoneCame}
use Rattle.tgap_model.specs.declared.holds.Holds as Held
use Rattle.tgap_model.specs.declared.keep.Keep as Keeper
use Rattle.version_store.specs.declared.name.StoreName as Named
use Rattle.version_store.specs.declared.seat.SeatOf.{SeatOf}
use Rattle.version_store.specs.declared.press.PressOf.{PressOf}
use Rattle.version_store.specs.Growth.{IsPrefix}
use Rattle.version_store.specs.Publishers.{places_from, numbers_of, IsOneOf, ArePublishers}
use Rattle.version_store.specs.Store.{press_versions, press_limit, press_publishers, seat_versions, seat_number, seat_numbers, AreSeatsFrom}
use Rattle.version_store.proofs.Lists.{press_published, press_limited, press_lists}
use Rattle.session.specs.Versions.{seen_of}
use Rattle.map_workers.specs.Seats.{newest_of, press_maps, press_batches, BeginsWith, SeesAll, Served, ServedRight, EachNumbered}
use Rattle.map_workers.proofs.Seats.{posts_right, publishers_grow}
use Rattle.commands.specs.declared.outcome.Outcome.{Outcome}
use Rattle.commands.specs.declared.outcome.Outcome.TheVariants.{OutOfMemory, PortFault}
use Rattle.commands.specs.Outcomes.{status_of, text_of, TakesMemory}
use Rattle.commands.specs.Delivery.{Delivers}
use Rattle.plain_io.specs.declared.files.Which.{Which}
use Rattle.plain_io.specs.Loads.{Told}
use Rattle.commands.specs.Command.{Source, Check}
use Rattle.commands.specs.Answers.{AnswersCommand, ReadsMap}
use Rattle.serving.specs.Serving.{Gave, AppendsFrontAfter, CameBack, HasNoDoors, IsLoaded, IsRefusal, IsStop, Serves, ServesAll, TakesEach}

-- ---- counts

rose_above : (a b : ℕ) → Rose a b → 0 < b
rose_above a b rose = grind (arith, rose)

not_risen : (a b : ℕ) → a ≡ 0 → ¬ (Rose a b) → b ≡ 0
not_risen a zero e none = refl
not_risen a (suc b) e none = absurd (none (grind (arith, e)))

rises_rose : (a b : ℕ) → Rises a b → Rose a b
rises_rose a b rises = grind (arith, rises)

-- ---- posts

pub each_length : {P : Type 0} (R : P → P → Type 0) (xs ys : List P) → EachBecame R xs ys → length ys ≡ length xs
each_length R [] [] e = refl
each_length R (x ∷ xs) (y ∷ ys) e = ap suc (each_length R xs ys e.1)
each_length R [] (y ∷ ys) e = absurd e
each_length R (x ∷ xs) [] e = absurd e

-- what holds of each that became of what the first fact holds of
pub each_all : {P : Type 0} (R : P → P → Type 0) (A C : P → Type 0) → ((x y : P) → R x y → A x → C y) → (xs ys : List P) → EachBecame R xs ys → All A xs
    → All C ys
each_all R A C make [] [] e all = All-nil C
each_all R A C make (x ∷ xs) (y ∷ ys) e all =
    All-cons C y ys (make x y e.0 (All-head A x xs all)) (each_all R A C make xs ys e.1 (All-tail A x xs all))
each_all R A C make [] (y ∷ ys) e all = absurd e
each_all R A C make (x ∷ xs) [] e all = absurd e

-- there is one, and what holds of each holds
all_one : {P : Type 0} (E : Type 0) (xs : List P) → 1 ≤ length xs → All (λ x. E) xs → E
all_one E [] some all = absurd (omega (arith, some))
all_one E (x ∷ xs) some all = All-head (λ y. E) x xs all

all_reverse : {P : Type 0} (A : P → Type 0) (xs : List P) → All A xs → All A (reverse xs)
all_reverse A [] all = all
all_reverse A (x ∷ xs) all =
    subst (All A) (sym (reverse-append (x ∷ []) xs))
    (All-append A (reverse xs) (x ∷ []) (all_reverse A xs (All-tail A x xs all)) (All-cons A x [] (All-head A x xs all) (All-nil A)))

-- what holds of each of a list holds of what these are parts of
pub all_parts : {P D : Type 0} (part : P → D) (A : D → Type 0) (xs : List P) (ds : List D) → map part xs ≡ ds → All A ds → All (λ x. A (part x)) xs
all_parts part A xs ds same all = by xs (subst (All A) (sym same) all)
  where
    by : (xs : List _) → All A (map part xs) → All (λ x. A (part x)) xs
    by [] all = All-nil (λ x. A (part x))
    by (x ∷ xs) all =
        All-cons (λ y. A (part y)) x xs (All-head A (part x) (map part xs) all) (by xs (All-tail A (part x) (map part xs) all))

-- the same of a list that is turned round
pub all_turned : {P S : Type 0} (part : P → S) (A B : S → Type 0) (xs : List P) (seats : List S) → map part xs ≡ reverse seats → ((x : S) → A x → B x)
    → All A seats → All (λ x. B (part x)) xs
all_turned part A B xs seats same make all = all_parts part B xs (reverse seats) same (all_reverse B seats (All-weaker A B make seats all))

-- the last of what is left comes next, and so all are turned round
pub one_turned : {S : Type 0} (done front left all : List S) (seat : S) → left ≡ front ++ seat ∷ [] → done ++ reverse left ≡ all
    → (done ++ seat ∷ []) ++ reverse front ≡ all
one_turned done front left all seat is so =
    append_assoc done (seat ∷ []) (reverse front) ∙ (ap (λ xs. done ++ xs) (sym (reverse-append front (seat ∷ [])) ∙ ap reverse (sym is)) ∙ so)

pub turned_all : {S : Type 0} (done left all : List S) → length left ≡ 0 → done ++ reverse left ≡ all → done ≡ all
turned_all done [] all none so = sym (append-nil done) ∙ so
turned_all done (seat ∷ left) all none so = absurd (omega (arith, none))

-- what a slice of the whole list became, the list becomes
pub written_back : {P : Type 0} (n : ℕ) (ys xs : List P) → length ys ≡ n → take n (ys ++ drop (length ys) xs) ≡ ys
written_back n ys xs long = subst (λ k. take k (ys ++ drop (length ys) xs) ≡ ys) long (take-append_seam ys (drop (length ys) xs))

module _ {P : Type 0} (faults : P → ℕ) where
  -- a count that rose is above 0
  pub one_failed : (xs ys : List P) → OneBecame (λ x y. Rose (faults x) (faults y)) xs ys → OneFailed (map faults ys)
  one_failed (x ∷ xs) (y ∷ ys) (inl rose) = inl (rose_above _ _ rose)
  one_failed (x ∷ xs) (y ∷ ys) (inr one) = inr (one_failed xs ys one)
  one_failed [] ys one = absurd one
  one_failed (x ∷ xs) [] one = absurd one

  -- counts that were 0 and did not rise are 0
  pub none_failed : (R : P → P → Type 0) (xs ys : List P) → EachBecame R xs ys → All (λ x. faults x ≡ 0) xs
      → ¬ (OneBecame (λ x y. Rose (faults x) (faults y)) xs ys) → NoneFailed (map faults ys)
  none_failed R [] [] e all none = tt
  none_failed R (x ∷ xs) (y ∷ ys) e all none = (
    not_risen (faults x) (faults y) (All-head (λ z. faults z ≡ 0) x xs all) (λ rose. none (inl rose)),
    none_failed R xs ys e.1 (All-tail (λ z. faults z ≡ 0) x xs all) (λ one. none (inr one)),
  )
  none_failed R [] (y ∷ ys) e all none = absurd e
  none_failed R (x ∷ xs) [] e all none = absurd e

  -- counts that are 0
  pub none_faulty : (xs : List P) → All (λ x. faults x ≡ 0) xs → NoneFailed (map faults xs)
  none_faulty [] all = tt
  none_faulty (x ∷ xs) all = (All-head (λ z. faults z ≡ 0) x xs all, none_faulty xs (All-tail (λ z. faults z ≡ 0) x xs all))

-- a seat that has seen all of a press has seen all of one with the same versions
pub sees_on : {N K J P : Type 0} {held : Held.Ghosts Version} {named : Named.Ghosts N} {keep : Keeper.Ghosts K} {other : Keeper.Ghosts J}
    (press : PressOf Version N K P held named keep) (press' : PressOf Version N J P held named other) (seat : SeatOf Version N P held named)
    → press_versions press' ≡ press_versions press → press_limit press' ≡ press_limit press → press_publishers press' ≡ press_publishers press
    → SeesAll press seat → SeesAll press' seat
sees_on press press' seat versions limit publishers sees =
    (sees.0 ∙ sym versions, sees.1 ∙ sym limit, sees.2 ∙ ap (numbers_of (seat_number seat)) (sym publishers))

-- doors at posts are closed and sound
pub doors_sound : {P D : Type 0} (door : P → D) (closed : D → Bool) (faults : D → ℕ) (xs : List P) → All (λ x. closed (door x) ≡ true) xs
    → NoneFailed (map (λ x. faults (door x)) xs) → All (λ d. (closed d ≡ true) × (faults d ≡ 0)) (map door xs)
doors_sound door closed faults [] all none = All-nil (λ d. (closed d ≡ true) × (faults d ≡ 0))
doors_sound door closed faults (x ∷ xs) all none =
    All-cons (λ d. (closed d ≡ true) × (faults d ≡ 0)) (door x) (map door xs) (All-head (λ y. closed (door y) ≡ true) x xs all, none.0)
    (doors_sound door closed faults xs (All-tail (λ y. closed (door y) ≡ true) x xs all) none.1)

-- ---- doors that came back

module _ {D : Type 0} where
  -- where so many doors were given, they may come back
  pub room_back : (n : ℕ) (old now : Option (Doors D)) → NoMoreBack old → Gave n old now → MayTakeBack n now
  room_back n None now room gave = subst (MayTakeBack n) (sym gave) tt
  room_back n (Some all) now room gave = subst (MayTakeBack n) (sym gave) (omega (arith, room))

  pub came_back : (n : ℕ) (old now new : Option (Doors D)) (doors : List D) → length doors ≡ n → Gave n old now → TakesAllBack now new doors
      → CameBack old new doors
  came_back n None now new doors long gave back = back ∙ ap (option_map (λ (a : Doors D). record { given = a.given; back = a.back ++ doors })) gave
  came_back n (Some all) now new doors long gave back =
      back ∙ (ap (option_map (λ (a : Doors D). record { given = a.given; back = a.back ++ doors })) gave
      ∙ ap (λ k. Some (record { given = all.given + k; back = all.back ++ doors })) (sym long))

  -- none were given
  pub none_back : (old new : Option (Doors D)) → new ≡ old → CameBack old new []
  none_back None new same = same
  none_back (Some all) new same =
      let given : all.given ≡ all.given + 0 = omega arith in
      same ∙ (ap (λ k. Some (record { given = k; back = all.back })) given ∙ ap (λ ds. Some (record { given = all.given + 0; back = ds })) (sym (append-nil all.back)))

-- ---- texts

pub appends_both : (old now new : Option (List ℕ)) (xs ys : List ℕ) → Appends old now xs → Appends now new ys → Appends old new (xs ++ ys)
appends_both None now new xs ys a b = tt
appends_both (Some before) now new xs ys a b =
    let then : new ≡ Some ((before ++ xs) ++ ys) = subst (λ t. Appends t new ys) a b in
    then ∙ ap (λ bytes. Some bytes) (append_assoc before xs ys)

-- ---- statuses

module _ {D : Type 0} (first : List ℕ) (Back : List D → Type 0) (Served : Type 0) (count count' : ℕ)
    (told told' : Option (List ℕ)) (sunk sunk' status : ℕ) (Refusal : Outcome → Type 0) where
  -- an outcome was put before there were doors, or in the place of them
  pub put_alone : (o : Outcome) → Delivers o told told' sunk sunk' status → Back [] → status_of o ≢ 0 → status_of o ≢ 6
      → ((status_of o ≢ 8) × (count' ≡ count) × Refusal o) ⊎ ((o ≡ PortFault) × Rises count count')
      → Serves first Back Served count count' told told' sunk sunk' status Refusal
  put_alone o (inr d) back not_zero not_six port = record {
    line = λ e. absurd (omega (arith, d.0, e));
    fault_line = λ e. absurd (omega (arith, d.0, e));
    port_fault = λ e. absurd (omega (arith, d.0, e));
    sound = λ n m. absurd (n d.0);
    doors = ([], back);
    other = λ a b c. absurd (b d.0);
    front = λ e. inl (
      back,
      (o, elim port [ inl p ↦ inl (p.2, p.1) | inr p ↦ inr (p.0, rises_rose count count' p.1) ], d.1),
    );
    sink_fault = λ e. d.2;
    sink_kept = λ n. absurd (n d.0);
  }
  put_alone o (inl d) back not_zero not_six port = record {
    line = λ e. absurd (not_zero (sym d.0 ∙ e));
    fault_line = λ e. elim port [
      | inl p ↦ absurd (p.0 (sym d.0 ∙ e))
      | inr p ↦ inl (back, subst (λ (q : Outcome). Appends told told' (text_of q)) p.0 d.1)
    ];
    port_fault = λ e. elim port [ inl p ↦ absurd (p.0 (sym d.0 ∙ e)) | inr p ↦ rises_rose count count' p.1 ];
    sound = λ n m. elim port [ inl p ↦ p.1 | inr p ↦ absurd (m (d.0 ∙ ap status_of p.0)) ];
    doors = ([], back);
    other = λ a b c. elim port [ inl p ↦ (o, p.2, (d.0, d.1)) | inr p ↦ absurd (c (d.0 ∙ ap status_of p.0)) ];
    front = λ e. absurd (not_six (sym d.0 ∙ e));
    sink_fault = λ e. absurd (not_six (sym d.0 ∙ e));
    sink_kept = λ n. d.2;
  }

  -- memory was wanting, or no doors could be given
  pub without_doors : (o : Outcome) → Delivers o told told' sunk sunk' status ⊎ (TakesMemory o × Delivers OutOfMemory told told' sunk sunk' status)
      → Back [] → ((o ≡ OutOfMemory) × (count' ≡ count)) ⊎ ((o ≡ PortFault) × Rises count count') → Refusal OutOfMemory
      → Serves first Back Served count count' told told' sunk sunk' status Refusal
  without_doors o (inr d) back (inl p) memory = absurd (subst TakesMemory p.0 d.0)
  without_doors o (inr d) back (inr p) memory = absurd (subst TakesMemory p.0 d.0)
  without_doors o (inl d) back (inl p) memory =
      put_alone OutOfMemory (subst (λ (q : Outcome). Delivers q told told' sunk sunk' status) p.0 d) back (λ e. omega (arith, e)) (λ e. omega (arith, e))
      (inl ((λ e. omega (arith, e)), p.1, memory))
  without_doors o (inl d) back (inr p) memory =
      put_alone PortFault (subst (λ (q : Outcome). Delivers q told told' sunk sunk' status) p.0 d) back (λ e. omega (arith, e)) (λ e. omega (arith, e))
      (inr (refl, p.1))

-- the same of other doors and counts that they were given with
pub serves_on : {D : Type 0} (first first' : List ℕ) (Back Back' : List D → Type 0) (Served Served' : Type 0) (count before count' : ℕ)
    (told told' : Option (List ℕ)) (sunk sunk' status : ℕ) (Refusal Refusal' : Outcome → Type 0) → ((o : Outcome) → Refusal o → Refusal' o)
    → (Served → Served') → first ≡ first' → count ≡ before
    → ((doors : List D) → Back doors → Back' doors)
    → Serves first Back Served count count' told told' sunk sunk' status Refusal
    → Serves first' Back' Served' before count' told told' sunk sunk' status Refusal'
serves_on first first' Back Back' Served Served' count before count' told told' sunk sunk' status Refusal Refusal' make serve line same on s = record {
  line = λ e. (subst (Appends told told') line (s.line e).0, serve (s.line e).1);
  fault_line = λ e. elim (s.fault_line e) [
    | inl none ↦ inl (on [] none.0, none.1)
    | inr p ↦ inr (subst (λ (l : List ℕ). Appends told told' (l ++ text_of PortFault)) line p.0, serve p.1)
  ];
  port_fault = λ e. subst (λ n. Rose n count') same (s.port_fault e);
  sound = λ n m. s.sound n m ∙ same;
  doors = (s.doors.0, on s.doors.0 s.doors.1);
  other = λ a b c. let h = s.other a b c in (h.0, make h.0 h.1, h.2);
  front = λ e. elim (s.front e) [
    | inl (back, (o, why, front)) ↦ inl (
      on [] back,
      (o, elim why [ inl r ↦ inl (make o r.0, r.1 ∙ same) | inr r ↦ inr (r.0, subst (λ n. Rose n count') same r.1) ], front),
    )
    | inr (inl p) ↦ inr (inl (p.0 ∙ same, subst (AppendsFront told told') line p.1))
    | inr (inr p) ↦ inr (inr (
      subst (λ n. Rose n count') same p.0,
      serve p.1,
      subst (λ (l : List ℕ). AppendsFrontAfter told told' l (text_of PortFault)) line p.2,
    ))
  ];
  sink_fault = s.sink_fault;
  sink_kept = s.sink_kept;
}

-- The line was not put: the doors that were given came back.
pub put_failed : {P D : Type 0} (first : List ℕ) (posts : List P) (door : P → D) (Served : Type 0) (given given' : Option (Doors D))
    (count count' : ℕ) (told told' : Option (List ℕ)) (sunk sunk' : ℕ) (Refusal : Outcome → Type 0) → Rises sunk sunk' → AppendsFront told told' first
    → count' ≡ count → TakesAllBack given given' (map door posts)
    → Serves first (TakesEach (length posts) given given') Served count count' told told' sunk sunk' 6 Refusal
put_failed first posts door Served given given' count count' told told' sunk sunk' Refusal rises front kept back = record {
  line = λ e. absurd (omega (arith, e));
  fault_line = λ e. absurd (omega (arith, e));
  port_fault = λ e. absurd (omega (arith, e));
  sound = λ n m. absurd (n refl);
  doors = (map door posts, (length-map posts door, back));
  other = λ a b c. absurd (b refl);
  front = λ e. inr (inl (kept, front));
  sink_fault = λ e. rises;
  sink_kept = λ n. absurd (n refl);
}

-- The line was put, and the connections of all doors were served.
pub after_line : {D : Type 0} (first : List ℕ) (Back : List D → Type 0) (Served : Type 0) (count count' : ℕ) (told middle told' : Option (List ℕ))
    (sunk between sunk' status : ℕ) (Refusal : Outcome → Type 0) → Appends told middle first → between ≡ sunk → (doors : List D) → Back doors → Served
    → ((status ≡ 0) × (count' ≡ count) × (told' ≡ middle) × (sunk' ≡ between)) ⊎ (Rose count count' × Delivers PortFault middle told' between sunk' status)
    → Serves first Back Served count count' told told' sunk sunk' status Refusal
after_line first Back Served count count' told middle told' sunk between sunk' status Refusal line same doors back served (inl h) = record {
  line = λ e. (subst (λ t. Appends told t first) (sym h.2) line, served);
  fault_line = λ e. absurd (omega (arith, e, h.0));
  port_fault = λ e. absurd (omega (arith, e, h.0));
  sound = λ a b. h.1;
  doors = (doors, back);
  other = λ a b c. absurd (a h.0);
  front = λ e. absurd (omega (arith, e, h.0));
  sink_fault = λ e. absurd (omega (arith, e, h.0));
  sink_kept = λ a. h.3 ∙ same;
}
after_line first Back Served count count' told middle told' sunk between sunk' status Refusal line same doors back served (inr (rose, inl d)) = record {
  line = λ e. absurd (omega (arith, e, d.0));
  fault_line = λ e. inr (appends_both told middle told' first (text_of PortFault) line d.1, served);
  port_fault = λ e. rose;
  sound = λ a b. absurd (b d.0);
  doors = (doors, back);
  other = λ a b c. absurd (c d.0);
  front = λ e. absurd (omega (arith, e, d.0));
  sink_fault = λ e. absurd (omega (arith, e, d.0));
  sink_kept = λ a. d.2 ∙ same;
}
after_line first Back Served count count' told middle told' sunk between sunk' status Refusal line same doors back served (inr (rose, inr d)) = record {
  line = λ e. absurd (omega (arith, e, d.0));
  fault_line = λ e. absurd (omega (arith, e, d.0));
  port_fault = λ e. absurd (omega (arith, e, d.0));
  sound = λ a b. absurd (a d.0);
  doors = (doors, back);
  other = λ a b c. absurd (b d.0);
  front = λ e. inr (inr (rose, served, (middle, line, d.1)));
  sink_fault = λ e. subst (λ k. Rises k sunk') same d.2;
  sink_kept = λ a. absurd (a d.0);
}

-- ---- a map that is not served

-- what is put of an outcome, or that memory is wanting for its text
abbrev pub IsPut : Outcome → Option (List ℕ) → Option (List ℕ) → ℕ → ℕ → ℕ → Type 0
IsPut o told told' sunk sunk' status =
    Delivers o told told' sunk sunk' status ⊎ (TakesMemory o × Delivers OutOfMemory told told' sunk sunk' status)

-- its status tells neither that a map was served nor that there were no doors
pub stop_apart : (told told' : Option (List ℕ)) (sunk sunk' status : ℕ) (o : Outcome) → IsStop o → IsPut o told told' sunk sunk' status
    → (status ≡ 0) ⊎ (status ≡ 8) → ⊥
stop_apart told told' sunk sunk' status o stop (inl (inl d)) (inl e) = elim stop [ inl s ↦ omega (arith, s, e, d.0) | inr (inl s) ↦ omega (arith, s, e, d.0) | inr (inr s) ↦ omega (arith, s, e, d.0) ]
stop_apart told told' sunk sunk' status o stop (inl (inl d)) (inr e) = elim stop [ inl s ↦ omega (arith, s, e, d.0) | inr (inl s) ↦ omega (arith, s, e, d.0) | inr (inr s) ↦ omega (arith, s, e, d.0) ]
stop_apart told told' sunk sunk' status o stop (inl (inr d)) (inl e) = omega (arith, e, d.0)
stop_apart told told' sunk sunk' status o stop (inl (inr d)) (inr e) = omega (arith, e, d.0)
stop_apart told told' sunk sunk' status o stop (inr (takes, inl d)) (inl e) = omega (arith, e, d.0)
stop_apart told told' sunk sunk' status o stop (inr (takes, inl d)) (inr e) = omega (arith, e, d.0)
stop_apart told told' sunk sunk' status o stop (inr (takes, inr d)) (inl e) = omega (arith, e, d.0)
stop_apart told told' sunk sunk' status o stop (inr (takes, inr d)) (inr e) = omega (arith, e, d.0)

module _ {D : Type 0} (first : List ℕ) (given : Option (Doors D)) (Served : Type 0) (count : ℕ)
    (told told' : Option (List ℕ)) (sunk sunk' status : ℕ) (Refusal : Outcome → Type 0) where
  pub refused_serves : (o : Outcome) → IsStop o → Refusal o → Refusal OutOfMemory → IsPut o told told' sunk sunk' status
      → Serves first (CameBack given given) Served count count told told' sunk sunk' status Refusal
  refused_serves o stop answers memory (inl d) =
      put_alone first (CameBack given given) Served count count told told' sunk sunk' status Refusal
      o d (none_back given given refl) (elim stop [ inl s ↦ λ e. omega (arith, s, e) | inr (inl s) ↦ λ e. omega (arith, s, e) | inr (inr s) ↦ λ e. omega (arith, s, e) ])
      (elim stop [ inl s ↦ λ e. omega (arith, s, e) | inr (inl s) ↦ λ e. omega (arith, s, e) | inr (inr s) ↦ λ e. omega (arith, s, e) ])
      (inl (elim stop [ inl s ↦ λ e. omega (arith, s, e) | inr (inl s) ↦ λ e. omega (arith, s, e) | inr (inr s) ↦ λ e. omega (arith, s, e) ], refl, answers))
  refused_serves o stop answers memory (inr d) =
      put_alone first (CameBack given given) Served count count told told' sunk sunk' status Refusal
      OutOfMemory d.1 (none_back given given refl) (λ e. omega (arith, e)) (λ e. omega (arith, e)) (inl ((λ e. omega (arith, e)), refl, memory))

-- ---- the map that is served

pub is_loaded : {A : Type 0} (source : Source) (told : Which → List ℕ → Told) (m : BaseMap) (map_of : A → BaseMap) (r : Result A Outcome)
    → ReadsMap source told (λ which. ⊤) (Ok m) → IfOk r (λ x. map_of x ≡ m) → OnOk r (IsPartition (base_segments m))
    → IfOk r (λ x. IsLoaded source told (map_of x))
is_loaded source told m map_of (Ok x) read same sound = subst (IsLoaded source told) (sym same) (read.0, read.1, read.2, sound)
is_loaded source told m map_of (Err o) read same sound = tt

-- ---- connections that were served

-- the maps of versions are planar partitions
pub maps_planar : (versions : List Version) → All (λ m. IsPartition (base_segments m)) (map (λ v. v.built) versions)
maps_planar [] = All-nil (λ m. IsPartition (base_segments m))
maps_planar (v ∷ versions) =
    All-cons (λ m. IsPartition (base_segments m)) v.built (map (λ (w : Version). w.built) versions) v.planar (maps_planar versions)

-- there are as many maps as versions
pub maps_few : (versions : List Version) (limit : ℕ) → length versions ≤ limit → length (map (λ (v : Version). v.built) versions) ≤ limit
maps_few versions limit few = subst (λ n. n ≤ limit) (sym (length-map versions (λ (v : Version). v.built))) few

-- there are as many batches as versions
pub batches_many : (versions : List Version)
    → length (map (λ (v : Version). v.batch) versions) ≡ length (map (λ (v : Version). v.built) versions)
batches_many versions = length-map versions (λ (v : Version). v.batch) ∙ sym (length-map versions (λ (v : Version). v.built))

all_numbered : (seats : ℕ) (publishers : List ℕ) → ((n p : ℕ) → slice_get publishers n ≡ Some p → IsOneOf seats p) → All (IsOneOf seats) publishers
all_numbered seats [] each = All-nil (IsOneOf seats)
all_numbered seats (p ∷ publishers) each =
    All-cons (IsOneOf seats) p publishers (each 0 p refl) (all_numbered seats publishers (λ n q e. each (suc n) q e))

-- each one behind the first has one of the seats as its publisher
others_published : (seats many : ℕ) (publishers : List ℕ) → ArePublishers seats publishers → All (IsOneOf seats) (drop (suc many) publishers)
others_published seats many [] are = All-nil (IsOneOf seats)
others_published seats many (p ∷ publishers) are =
    All-drop (IsOneOf seats) many publishers (all_numbered seats publishers (λ n q e. are.1 (suc n) q (omega arith) e))

-- what holds of each by its number holds of what these are parts of
each_part : {P D : Type 0} (part : P → D) (R : ℕ → D → Type 0) (n : ℕ) (xs : List P) → EachNumbered (λ k x. R k (part x)) n xs → EachNumbered R n (map part xs)
each_part part R n [] each = tt
each_part part R n (x ∷ xs) each = (each.0, each_part part R (suc n) xs each.1)

-- the versions that were there from the start, and those that were published
published_many : (start later history : List BaseMap) (first n : ℕ) → history ≡ start ++ later → length start ≡ first → first + n ≡ length history
    → n ≡ length later
published_many start later history first n is some many =
    let long : length history ≡ length start + length later = ap length is ∙ length-append start later in
    omega (arith, long, some, many)

module _ {D L : Type 0} (closed : D → Bool) (faults : D → ℕ) (told : D → Option (Connections L)) (link : OfLink.Ghosts L) where
  -- What became of posts whose doors were sound: of each it is told that it is closed or has failed, and that its connections are right over
  -- a list that begins with the maps from the start, of which each later version has one of the doors as its publisher.
  serves_all : {P : Type 0} (door : P → D) (xs ys all : List P) (given given' : Option (Doors D)) (limit : ℕ) (start history : List BaseMap)
      (batches : List (List ℕ)) (publishers : List ℕ) (Kept : List (List ℕ) → Type 0) (first status : ℕ)
      → xs ≡ all → 1 ≤ length all → All (λ x. faults (door x) ≡ 0) all
      → EachBecame (λ x y. (closed (door y) ≡ true) ⊎ Rose (faults (door x)) (faults (door y))) xs ys → TakesAllBack given given' (map door ys)
      → length history ≤ limit → All (λ m. IsPartition (base_segments m)) history → length start ≡ first
      → length batches ≡ length history → first + length publishers ≡ length history → All (IsOneOf (length all)) publishers
      → (later : List BaseMap) × (history ≡ start ++ later) → Kept batches
      → EachNumbered (λ n y. ServedRight link limit history batches (newest_of start) (places_from first n publishers) (told (door y))) 1 ys
      → (status ≡ 0) ↔ All (λ d. (closed d ≡ true) × (faults d ≡ 0)) (map door ys)
      → ServesAll closed faults told link (TakesEach (length all) given given') (length all) limit start Kept status
  serves_all {P} door xs ys all given given' limit start history batches publishers Kept first status same some sound stopped back room planar one many count are later kept right end =
      let Stopped : P → P → Type 0 = λ (x y : P). (closed (door y) ≡ true) ⊎ Rose (faults (door x)) (faults (door y)) in
      let Right : ℕ → List BaseMap → ℕ → D → Type 0 =
      λ (begin : ℕ) (h : List BaseMap) (n : ℕ) (d : D). ServedRight link limit h batches (newest_of start) (places_from begin n publishers) (told d) in
      let number : length ys ≡ length all = each_length Stopped xs ys stopped ∙ ap length same in
      let doors_many : length (map door ys) ≡ length all = length-map ys door ∙ number in
      record {
        doors = map door ys;
        back = (doors_many, back);
        number = doors_many;
        stopped = All-map (λ d. (closed d ≡ true) ⊎ (0 < faults d)) door ys
            (each_all Stopped (λ x. faults (door x) ≡ 0) (λ y. (closed (door y) ≡ true) ⊎ (0 < faults (door y)))
            (λ x y r none. elim r [ inl shut ↦ inl shut | inr rose ↦ inr (rose_above (faults (door x)) (faults (door y)) rose) ]) xs ys stopped
            (subst (All (λ x. faults (door x) ≡ 0)) (sym same) sound));
        end = end;
        published = later.0;
        batches = batches;
        publishers = publishers;
        with_batches = many ∙ ap length later.1;
        kept = kept;
        with_publishers = published_many start later.0 history first (length publishers) later.1 one count;
        publishers_are = are;
        room = subst (λ h. length h ≤ limit) later.1 room;
        planar = subst (All (λ m. IsPartition (base_segments m))) later.1 planar;
        right = subst (λ k. EachNumbered (Right k (start ++ later.0)) 1 (map door ys)) (sym one)
            (subst (λ h. EachNumbered (Right first h) 1 (map door ys)) later.1 (each_part door (Right first history) 1 ys right));
      }

  -- The same of posts at which a press and its seats were served: the first seat alone had published before, each seat had seen all, and the
  -- press from the lock has gathered them.
  pub all_served : {Q N K P : Type 0} {held : Held.Ghosts Version} {named : Named.Ghosts N} {keep : Keeper.Ghosts K} (door : Q → D)
      (seat : Q → SeatOf Version N P held named) (xs ys all : List Q) (given given' : Option (Doors D)) (press press' : PressOf Version N K P held named keep)
      (Kept : List (List ℕ) → Type 0) (status : ℕ)
      → xs ≡ all → 1 ≤ length all → All (λ x. faults (door x) ≡ 0) all
      → EachBecame (λ x y. (closed (door y) ≡ true) ⊎ Rose (faults (door x)) (faults (door y))) xs ys
      → EachBecame (λ x y. ServesDoor link (told (door x)) (told (door y)) (Served (seen_of (seat x)) (seen_of (seat y)))) xs ys
      → All (λ x. NoneCame (told (door x))) all → All (λ x. SeesAll press (seat x)) all → AreSeatsFrom 1 (map seat all) → length all ≡ named.seats
      → (many : ℕ) × (press_publishers press ≡ 0 ∷ replicate many 1) → TakesAllBack given given' (map door ys)
      → All (λ y. IsPrefix (seat_versions (seat y)) (press_versions press')) ys
      → All (λ y. seat_numbers (seat y) ≡ numbers_of (seat_number (seat y)) (press_publishers press')) ys
      → (BeginsWith press press' → Kept (press_batches press'))
      → (status ≡ 0) ↔ All (λ d. (closed d ≡ true) × (faults d ≡ 0)) (map door ys)
      → ServesAll closed faults told link (TakesEach (length all) given given') (length all) (press_limit press) (press_maps press) Kept status
  all_served {Q = Q} {named = named} door seat xs ys all given given' press press' Kept status same some sound stopped served none sees numbers seats first back fronts own keep end =
      let value = sym same in
      let known = press_published press' in
      let some_here : 1 ≤ length xs = subst (λ l. 1 ≤ length l) value some in
      let sees_here = subst (All (λ x. SeesAll press (seat x))) value sees in
      let numbers_here = subst (λ l. AreSeatsFrom 1 (map seat l)) value numbers in
      let grow = publishers_grow door seat link told first.0 xs ys press press' served sees_here numbers_here some_here first.1 known.0.0 own in
      let later = drop (suc first.0) (press_publishers press') in
      let right =
      posts_right door seat link told 1 later xs ys press press' served (subst (All (λ x. NoneCame (told (door x)))) value none) sees_here numbers_here grow
      fronts own in
      let long : length ys ≡ length xs = each_length (λ x y. (closed (door y) ≡ true) ⊎ Rose (faults (door x)) (faults (door y))) xs ys stopped in
      let begins = all_one (BeginsWith press press') ys (omega (arith, some_here, long)) right.0 in
      let before : length (press_maps press) ≡ length (press_publishers press) =
      length-map (press_versions press) (λ (v : Version). v.built) ∙ sym (press_published press).1 in
      let count : length (press_publishers press) + length later ≡ length (press_maps press') =
      sym (length-append (press_publishers press) later) ∙ ap length (sym grow) ∙ known.1
      ∙ sym (length-map (press_versions press') (λ (v : Version). v.built)) in
      serves_all door xs ys all given given' (press_limit press) (press_maps press) (press_maps press') (press_batches press') later Kept
      (length (press_publishers press)) status same some sound stopped back
      (maps_few (press_versions press') (press_limit press) (subst (λ n. length (press_versions press') ≤ n) (press_limited press' ∙ sym (press_limited press))
      (press_lists press').room)) (maps_planar (press_versions press')) before (batches_many (press_versions press')) count
      (subst (λ k. All (IsOneOf k) later) (sym seats) (others_published named.seats first.0 (press_publishers press') known.0)) begins.0 (keep begins) right.1 end

  -- the same of other doors, and of what is equal
  pub serves_all_on : (Back Back' : List D → Type 0) (workers workers' limit limit' : ℕ) (start start' : List BaseMap)
      (Kept Kept' : List (List ℕ) → Type 0) (status : ℕ)
      → ((doors : List D) → Back doors → Back' doors) → workers ≡ workers' → limit ≡ limit' → start ≡ start'
      → ((batches : List (List ℕ)) → Kept batches → Kept' batches)
      → ServesAll closed faults told link Back workers limit start Kept status → ServesAll closed faults told link Back' workers' limit' start' Kept' status
  serves_all_on Back Back' workers workers' limit limit' start start' Kept Kept' status on number most same keep s =
      let Right : ℕ → List BaseMap → ℕ → D → Type 0 =
      λ (l : ℕ) (h : List BaseMap) (n : ℕ) (d : D). ServedRight link l (h ++ s.published) s.batches (newest_of h) (places_from (length h) n s.publishers) (told d) in
      record {
        doors = s.doors;
        back = on s.doors s.back;
        number = s.number ∙ number;
        stopped = s.stopped;
        end = s.end;
        published = s.published;
        batches = s.batches;
        publishers = s.publishers;
        with_batches = s.with_batches ∙ ap (λ h. length (h ++ s.published)) same;
        kept = keep s.batches s.kept;
        with_publishers = s.with_publishers;
        publishers_are = subst (λ k. All (IsOneOf k) s.publishers) number s.publishers_are;
        room = subst (λ l. length (start' ++ s.published) ≤ l) most (subst (λ h. length (h ++ s.published) ≤ limit) same s.room);
        planar = subst (λ h. All (λ m. IsPartition (base_segments m)) (h ++ s.published)) same s.planar;
        right = subst (λ l. EachNumbered (Right l start') 1 s.doors) most (subst (λ h. EachNumbered (Right limit h) 1 s.doors) same s.right);
      }

  -- all doors came back; with status 0 as many as workers, each closed and none with a fault
  pub doors_back : (Back : List D → Type 0) (workers limit : ℕ) (start : List BaseMap) (Kept : List (List ℕ) → Type 0) (status : ℕ)
      → ServesAll closed faults told link Back workers limit start Kept status
      → (doors : List D) × Back doors × (status ≡ 0 → (length doors ≡ workers) × All (λ d. (closed d ≡ true) × (faults d ≡ 0)) doors)
  doors_back Back workers limit start Kept status all = (all.doors, all.back, λ zero. (all.number, all.end.0 zero))

-- where the status is 0 by what is known then, and else by what is known always
pub by_status : {D : Type 0} (Back : List D → Type 0) (AllBack : List D → Type 0) (status : ℕ) → ((doors : List D) × Back doors)
    → (status ≡ 0 → (doors : List D) × Back doors × (status ≡ 0 → AllBack doors)) → (doors : List D) × Back doors × (status ≡ 0 → AllBack doors)
by_status Back AllBack (suc n) any served = (any.0, any.1, λ e. absurd (omega (arith, e)))
by_status Back AllBack zero any served = served refl

-- what is put where a door failed has another status than 0
pub not_zero : (told told' : Option (List ℕ)) (sunk sunk' status : ℕ) → IsPut PortFault told told' sunk sunk' status → status ≡ 0 → ⊥
not_zero told told' sunk sunk' status (inl (inl d)) e = omega (arith, e, d.0)
not_zero told told' sunk sunk' status (inl (inr d)) e = omega (arith, e, d.0)
not_zero told told' sunk sunk' status (inr d) e = absurd d.0

-- doors that are closed and sound have not failed
pub sound_apart : {P D : Type 0} (door : P → D) (closed : D → Bool) (faults : D → ℕ) (xs : List P)
    → All (λ d. (closed d ≡ true) × (faults d ≡ 0)) (map door xs) → OneFailed (map (λ x. faults (door x)) xs) → ⊥
sound_apart door closed faults [] all failed = absurd failed
sound_apart door closed faults (x ∷ xs) all (inl above) =
    let none = All-head (λ d. (closed d ≡ true) × (faults d ≡ 0)) (door x) (map door xs) all in omega (arith, none.1, above)
sound_apart door closed faults (x ∷ xs) all (inr failed) =
    sound_apart door closed faults xs (All-tail (λ d. (closed d ≡ true) × (faults d ≡ 0)) (door x) (map door xs) all) failed

module _ {D : Type 0} (first : List ℕ) (Back : List D → Type 0) (Served : Type 0) (count count' : ℕ)
    (told told' : Option (List ℕ)) (sunk sunk' status : ℕ) (Refusal : Outcome → Type 0) where
  -- connections were served, or there were no doors
  pub served_or_none : Serves first Back Served count count' told told' sunk sunk' status Refusal → (status ≡ 0) ⊎ (status ≡ 8)
      → ((status ≡ 8) × HasNoDoors Back told told') ⊎ ((status ≡ 8 → Appends told told' (first ++ text_of PortFault)) × Served)
  served_or_none s (inl e) = inr ((λ f. absurd (omega (arith, e, f))), (s.line e).1)
  served_or_none s (inr e) = elim (s.fault_line e) [ inl none ↦ inl (e, none) | inr p ↦ inr ((λ f. p.0), p.1) ]

  -- what was put with a fault of the port
  pub fault_put : Serves first Back Served count count' told told' sunk sunk' status Refusal → status ≡ 8
      → Appends told told' (text_of PortFault) ⊎ Appends told told' (first ++ text_of PortFault)
  fault_put s e = elim (s.fault_line e) [ inl none ↦ inl none.1 | inr p ↦ inr p.0 ]
