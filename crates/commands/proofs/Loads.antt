-- Files that are loaded, and what comes of the maps that are read from them.
use Rattle.std.proofs.Common.{◌≡◌, ◌≢◌, ℕ, ◌⊎◌, ◌<◌, ◌≤◌, inl, inr, List, [], ◌∷◌, length, Result, Ok, Err, Contains, zero, suc, ◌+◌, refl, sym, ap, ◌∙◌, subst, arith, lt-ltb, le-ltb}
use Rattle.tgap_model.specs.declared.limits.TheConstants.{MAX_MAP_BYTES}
use Rattle.tgap_model.specs.declared.failure.Or.{Or}
use Rattle.tgap_model.specs.declared.failure.Or.TheVariants.{Fault, Memory}
use Rattle.tgap_model.specs.declared.fault.MapFault.{MapFault}
use Rattle.tgap_model.specs.declared.fault.MapFault.TheVariants.{InputLong}
use Rattle.tgap_model.specs.Base.{BaseMap}
use Rattle.map_forms.specs.Listing.{IsListing, listing}
use Rattle.tgap_model.specs.declared.topology.NamedRules.{NamedRules}
use Rattle.tgap_model.specs.declared.topology.RawMap.{RawMap}
use Rattle.map_forms.specs.RulesFile.{rules_of}
use Rattle.topology_forms.specs.Topology.{topology}
use Rattle.topology_forms.specs.Rings.{based, topology_base}
use Rattle.tgap_model.specs.Faults.{Rises}
use Rattle.plain_io.specs.declared.files.Which.{Which}
use Rattle.plain_io.specs.declared.files.Which.TheVariants.{Map, Rules, Slice, Packet}
use Rattle.plain_io.specs.Loads.{Told, Untold, Missing, Holds, OfFile, OthersStay}
use Rattle.commands.specs.declared.outcome.Outcome.{Outcome}
use Rattle.commands.specs.declared.outcome.Outcome.TheVariants.{LoadFault, Refused, OutOfMemory}
use Rattle.plain_io.specs.Taking.{Refuses}
use Rattle.std.specs.Result.{IsErrAnd}
use Rattle.commands.specs.Outcomes.{IsOfFiles, refusal}
use Rattle.commands.specs.Command.{Source, Listing, Topology}
use Rattle.commands.specs.MapFile.{Contents, FileName, map_file, rules_file, files_of_map, IsTopologyOf, OfMap, of_map}
use Rattle.commands.specs.Answers.{Answering, Failed, Fetches, IsReached, KeepCounts, ReadsListing, ReadsTopology, ReadsMap}

-- there are lists of each length
list_of : (n : ℕ) → (xs : List ℕ) × (length xs ≡ n)
list_of zero = ([], refl)
list_of (suc n) = (0 ∷ (list_of n).0, omega (arith, (list_of n).1))

-- ---- kinds of files, and their counts

-- two kinds of files are one or they are not
same_kind : (w k : Which) → (k ≡ w) ⊎ (k ≢ w)
same_kind Map Map = inl refl
same_kind Map Rules = inr (λ e. cc)
same_kind Map Slice = inr (λ e. cc)
same_kind Map Packet = inr (λ e. cc)
same_kind Rules Map = inr (λ e. cc)
same_kind Rules Rules = inl refl
same_kind Rules Slice = inr (λ e. cc)
same_kind Rules Packet = inr (λ e. cc)
same_kind Slice Map = inr (λ e. cc)
same_kind Slice Rules = inr (λ e. cc)
same_kind Slice Slice = inl refl
same_kind Slice Packet = inr (λ e. cc)
same_kind Packet Map = inr (λ e. cc)
same_kind Packet Rules = inr (λ e. cc)
same_kind Packet Slice = inr (λ e. cc)
same_kind Packet Packet = inl refl

-- the first of some names is among them, and so are those behind it
in_first : (n : FileName) (names : List FileName) → Contains (n ∷ names) n
in_first n names = (0, omega arith, refl)

in_rest : (n : FileName) (names : List FileName) (file : FileName) → Contains names file → Contains (n ∷ names) file
in_rest n names file h = (suc h.0, omega (arith, h.1), h.2)

-- of two names the second is among them
in_second : (m n : FileName) → Contains (m ∷ n ∷ []) n
in_second m n = in_rest m (n ∷ []) n (in_first n [])

-- the counts after a load that did not fail
pub all_stay : (n : FileName) (before now : Which → ℕ) (tells : Which → Type 0) → now n.which ≡ before n.which → OthersStay n.which before now
    → KeepCounts (n ∷ []) before now tells
all_stay n before now tells here others kind = elim (same_kind n.which kind) [
  | inl e ↦ inl (ap now e ∙ here ∙ sym (ap before e))
  | inr apart ↦ inl (others kind apart)
]

-- and after one that did
pub one_rises : (n : FileName) (before now : Which → ℕ) (tells : Which → Type 0) → OthersStay n.which before now → tells n.which
    → KeepCounts (n ∷ []) before now tells
one_rises n before now tells others told kind = elim (same_kind n.which kind) [
  | inl e ↦ inr (n, in_first n [], sym e, subst tells (sym e) told)
  | inr apart ↦ inl (others kind apart)
]

-- the counts after a load that failed and is told so
pub load_failed : (n : FileName) (before now : Which → ℕ) → OthersStay n.which before now
    → let told : Which → Result (List ℕ) Outcome = λ kind. Err (LoadFault kind) in KeepCounts (n ∷ []) before now (λ kind. told n.which ≡ told kind)
load_failed n before now others =
    let told : Which → Result (List ℕ) Outcome = λ kind. Err (LoadFault kind) in
    one_rises n before now (λ kind. told n.which ≡ told kind) others refl

-- after a load that gave bytes, all counts are as before
pub stay_after : (n : FileName) (before now : Which → ℕ) (text : List ℕ)
    → (let told : Result (List ℕ) Outcome → Result (List ℕ) Outcome = λ r. r in
    KeepCounts (n ∷ []) before now (λ kind. told (Ok text) ≡ told (Err (LoadFault kind)))) → (kind : Which) → now kind ≡ before kind
stay_after n before now text keep kind = elim (keep kind) [ inl same ↦ same | inr failed ↦ (let clash = failed.3 in absurd cc) ]

-- a load that fails after the counts stayed
failed_later : (before middle now : Which → ℕ) → ((kind : Which) → middle kind ≡ before kind) → (kind : Which) → Failed middle now kind → Failed before now kind
failed_later before middle now stay kind failed =
    (subst (λ (n : ℕ). Rises n (now kind)) (stay kind) failed.0, λ other apart. failed.1 other apart ∙ stay other)

-- what is told of a file that is loaded after others
pub fetched_later : (told now : Told) (max : ℕ) (which : Which) (before middle after : Which → ℕ) (r : Result (List ℕ) Outcome) → now ≡ told
    → ((kind : Which) → middle kind ≡ before kind) → Fetches now max which (Failed middle after which) r → Fetches told max which (Failed before after which) r
fetched_later told now max which before middle after r same stay h = by r (subst (λ (t : Told). Fetches t max which (Failed middle after which) r) same h)
  where
    by : (r : Result (List ℕ) Outcome) → Fetches told max which (Failed middle after which) r → Fetches told max which (Failed before after which) r
    by (Ok text) h = h
    by (Err o) (inl failed) = inl (failed.0, failed_later before middle after stay which failed.1)
    by (Err o) (inr h) = inr h

-- a failed load that is passed on is told in the end
told_in_the_end : {A : Type 0} (o : Outcome) (kind : Which) (r : Result A Outcome) → IsErrAnd r (λ p. p ≡ o)
    → (let told : Outcome → Result (List ℕ) Outcome = λ p. Err p in told o ≡ told (LoadFault kind))
    → (let told : Outcome → Result A Outcome = λ p. Err p in r ≡ told (LoadFault kind))
told_in_the_end o kind (Ok x) same e = absurd same
told_in_the_end o kind (Err p) same e = rw same (let one : o ≡ LoadFault kind = cc in ap (λ (q : Outcome). Err q) one)

-- the counts after the load of a second file failed, which is told in the end
pub second_failed : {A : Type 0} (m n : FileName) (before middle now : Which → ℕ) (o : Outcome) (r : Result A Outcome) → ((kind : Which) → middle kind ≡ before kind)
    → IsErrAnd r (λ p. p ≡ o)
    → (let told : Outcome → Result (List ℕ) Outcome = λ p. Err p in KeepCounts (n ∷ []) middle now (λ kind. told o ≡ told (LoadFault kind)))
    → (let told : Outcome → Result A Outcome = λ p. Err p in KeepCounts (m ∷ n ∷ []) before now (λ kind. r ≡ told (LoadFault kind)))
second_failed m n before middle now o r stay passed keep kind = elim (keep kind) [
  | inl same ↦ inl (same ∙ stay kind)
  | inr failed ↦ inr (n, in_second m n, only failed.0 failed.1 ∙ failed.2, told_in_the_end o kind r passed failed.3)
]
  where
    only : (f : FileName) → Contains (n ∷ []) f → n.which ≡ f.which
    only f (zero, l, e) = ap (λ (g : FileName). g.which) e
    only f (suc k, l, e) = absurd (omega (arith, l))

-- ---- maps

-- the name of the file of a map
abbrev pub map_name : Source → List ℕ
map_name (Listing name) = name
map_name (Topology map object rules) = map

-- a map file that is too long, whatever the files hold that are loaded after it
long_map : (source : Source) (told : Which → List ℕ → Told) (rose : Which → Type 0) (o : Outcome) (files : Contents)
    → MAX_MAP_BYTES < length (files Map) → OfFile (told Map (map_name source)) (λ held. files Map ≡ held) → o ≡ Refused (InputLong MAX_MAP_BYTES)
    → ReadsMap source told rose (Err o)
long_map (Listing name) told rose o files more held is =
    inr (inr (files, (held, λ fits. absurd (omega (arith, fits, more))), (InputLong MAX_MAP_BYTES, is, inl (more, refl), rw (lt-ltb MAX_MAP_BYTES (length (files Map)) more) refl)))
long_map (Topology map object rules) told rose o files more held is =
    inr (inr (files, (held, λ fits. absurd (omega (arith, fits, more))), (InputLong MAX_MAP_BYTES, is, inl (more, refl), rw (lt-ltb MAX_MAP_BYTES (length (files Map)) more) refl)))

-- the file of a map is the first of those that are loaded
map_is_first : (source : Source) (told : Which → List ℕ → Told) → IsReached told (files_of_map source) (map_file (map_name source))
map_is_first (Listing name) told = inl refl
map_is_first (Topology map object rules) told = inl refl

-- the load of a file that is reached is that of one of the named ones
pub reached_is_named : (told : Which → List ℕ → Told) (names : List FileName) (file : FileName) → IsReached told names file → Contains names file
reached_is_named told [] file h = absurd h
reached_is_named told (n ∷ names) file (inl same) = rw same (in_first n names)
reached_is_named told (n ∷ names) file (inr later) = in_rest n names file (reached_is_named told names file later.1)

-- of a file of which these bytes were had it is not told that it is missing or too long
pub is_loaded : (max : ℕ) (told : Told) (bytes : List ℕ) → length bytes ≤ max → OfFile told (λ held. bytes ≡ held)
    → OfFile told (λ held. length held ≤ max)
is_loaded max Untold bytes few had = tt
is_loaded max Missing bytes few had = had
is_loaded max (Holds held) bytes few had = subst (λ (b : List ℕ). length b ≤ max) had few

-- A file that is known to be too long is so in some contents, whatever is told of it.
pub some_long : (max : ℕ) (told : Told) → OfFile told (λ bytes. max < length bytes)
    → (bytes : List ℕ) × (max < length bytes) × OfFile told (λ held. bytes ≡ held)
some_long max Untold h = let some = list_of (max + 1) in (some.0, omega (arith, some.1), tt)
some_long max Missing h = absurd h
some_long max (Holds bytes) h = (bytes, h, refl)

-- what comes where the file of a map is not had
pub not_fetched : (source : Source) (told : Which → List ℕ → Told) (rose : Which → Type 0) (o : Outcome)
    → Fetches (told Map (map_name source)) MAX_MAP_BYTES Map (rose Map) (Err o) → ReadsMap source told rose (Err o)
not_fetched source told rose o (inl failed) = inl (map_file (map_name source), map_is_first source told, failed.0, failed.1)
not_fetched source told rose o (inr (inl memory)) = inr (inl memory)
not_fetched source told rose o (inr (inr long)) =
    let some = some_long MAX_MAP_BYTES (told Map (map_name source)) long.1 in
    long_map source told rose o (λ kind. some.0) some.1 some.2 long.0

-- the same, as it is passed on
pub passed_on : (source : Source) (told : Which → List ℕ → Told) (rose : Which → Type 0) (o : Outcome) (r : Result BaseMap Outcome)
    → IsErrAnd r (λ p. p ≡ o) → Fetches (told Map (map_name source)) MAX_MAP_BYTES Map (rose Map) (Err o) → ReadsMap source told rose r
passed_on source told rose o (Ok m) same h = absurd same
passed_on source told rose o (Err p) same h = rw same (not_fetched source told rose o h)

-- the bytes of a map file that was had
abbrev pub IsHad : Told → List ℕ → Type 0
IsHad told bytes = (length bytes ≤ MAX_MAP_BYTES) × OfFile told (λ held. bytes ≡ held)

-- what comes of a listing that was had
pub of_bytes : (name : List ℕ) (told : Which → List ℕ → Told) (rose : Which → Type 0) (bytes : List ℕ) (r : Result BaseMap Outcome)
    → IsHad (told Map name) bytes → ReadsListing bytes r → ReadsMap (Listing name) told rose r
of_bytes name told rose bytes (Ok m) h read =
    ((λ kind. bytes), (h.1, λ fits. tt), (h.0, read.0), rw (le-ltb MAX_MAP_BYTES (length bytes) h.0) read.1)
of_bytes name told rose bytes (Err o) h (inl memory) = inr (inl memory)
of_bytes name told rose bytes (Err o) h (inr read) =
    inr (inr ((λ kind. bytes), (h.1, λ fits. tt), (read.0, read.1, inr (h.0, read.2, read.3), rw (le-ltb MAX_MAP_BYTES (length bytes) h.0) read.2)))

-- ---- topologies with their rules

-- what a topology and its rules make is the base map of both
topology_makes : (bytes object held : List ℕ) (m : BaseMap) → IsTopologyOf bytes object held m → topology_base bytes object held ≡ Ok m
unfolding topology_base
topology_makes bytes object held m read = rw (read.rules_are, read.topology_is) read.rings_make

module _ (bytes object held : List ℕ) where
  -- what comes of rules that are refused
  pub rules_refused : (e : Or MapFault) (r : Result BaseMap Outcome) → IsErrAnd r (λ o. o ≡ refusal e) → Refuses e (rules_of held)
      → ReadsTopology bytes object held r
  unfolding topology_base
  rules_refused e (Ok m) gives refuses = absurd gives
  rules_refused (Fault fault) (Err o) gives refuses = inr (fault, gives, rw refuses refl)
  rules_refused Memory (Err o) gives refuses = inl gives

  -- of a topology that is refused
  pub topology_refused : (named : NamedRules) (e : Or MapFault) (r : Result BaseMap Outcome) → IsErrAnd r (λ o. o ≡ refusal e) → rules_of held ≡ Ok named
      → Refuses e (topology bytes object named.property) → ReadsTopology bytes object held r
  unfolding topology_base
  topology_refused named e (Ok m) gives rules refuses = absurd gives
  topology_refused named (Fault fault) (Err o) gives rules refuses = inr (fault, gives, rw (rules, refuses) refl)
  topology_refused named Memory (Err o) gives rules refuses = inl gives

  -- and of rings that are refused
  pub rings_refused : (named : NamedRules) (raw : RawMap) (e : Or MapFault) (r : Result BaseMap Outcome) → IsErrAnd r (λ o. o ≡ refusal e)
      → rules_of held ≡ Ok named → topology bytes object named.property ≡ Ok raw → Refuses e (based raw named) → ReadsTopology bytes object held r
  unfolding topology_base
  rings_refused named raw e (Ok m) gives rules read refuses = absurd gives
  rings_refused named raw (Fault fault) (Err o) gives rules read refuses = inr (fault, gives, rw (rules, read, refuses) refl)
  rings_refused named raw Memory (Err o) gives rules read refuses = inl gives

-- a map file and a rules file that hold this
abbrev both : List ℕ → List ℕ → Contents
both bytes rules Map = bytes
both bytes rules Rules = rules
both bytes rules Slice = []
both bytes rules Packet = []

module _ (map object rules : List ℕ) (told : Which → List ℕ → Told) (rose : Which → Type 0) (bytes : List ℕ) (had : IsHad (told Map map) bytes) where
  -- what comes where the rules are not had
  no_rules : (o : Outcome) → Fetches (told Rules rules) MAX_MAP_BYTES Rules (rose Rules) (Err o) → ReadsMap (Topology map object rules) told rose (Err o)
  no_rules o (inl failed) = inl (rules_file rules, inr (is_loaded MAX_MAP_BYTES (told Map map) bytes had.0 had.1, inl refl), failed.0, failed.1)
  no_rules o (inr (inl memory)) = inr (inl memory)
  no_rules o (inr (inr long)) =
      let some = some_long MAX_MAP_BYTES (told Rules rules) long.1 in
      inr (inr (
        both bytes some.0,
        (had.1, λ fits. (some.2, λ short. tt)),
        (
          InputLong MAX_MAP_BYTES,
          long.0,
          inr (had.0, inl (some.1, refl)),
          rw (le-ltb MAX_MAP_BYTES (length bytes) had.0, lt-ltb MAX_MAP_BYTES (length some.0) some.1) refl,
        ),
      ))

  -- the same, as it is passed on
  pub rules_passed_on : (o : Outcome) (r : Result BaseMap Outcome) → IsErrAnd r (λ p. p ≡ o)
      → Fetches (told Rules rules) MAX_MAP_BYTES Rules (rose Rules) (Err o) → ReadsMap (Topology map object rules) told rose r
  rules_passed_on o (Ok m) same h = absurd same
  rules_passed_on o (Err p) same h = rw same (no_rules o h)

  -- what comes of both files
  pub of_both : (held : List ℕ) (r : Result BaseMap Outcome) → IsHad (told Rules rules) held → ReadsTopology bytes object held r
      → ReadsMap (Topology map object rules) told rose r
  of_both held (Ok m) h read = (
    both bytes held,
    (had.1, λ fits. (h.1, λ short. tt)),
    (had.0, h.0, read),
    rw (le-ltb MAX_MAP_BYTES (length bytes) had.0, le-ltb MAX_MAP_BYTES (length held) h.0) (topology_makes bytes object held m read),
  )
  of_both held (Err o) h (inl memory) = inr (inl memory)
  of_both held (Err o) h (inr read) =
      inr (inr (
        both bytes held,
        (had.1, λ fits. (h.1, λ short. tt)),
        (
          read.0,
          read.1,
          inr (had.0, inr (h.0, read.2)),
          rw (le-ltb MAX_MAP_BYTES (length bytes) had.0, le-ltb MAX_MAP_BYTES (length held) h.0) read.2,
        ),
      ))

-- what comes of a listing that is refused
pub not_listed : (bytes : List ℕ) (e : Or MapFault) (r : Result BaseMap Outcome) → IsErrAnd r (λ o. o ≡ refusal e) → Refuses e (listing bytes)
    → (let told : Or MapFault → Result BaseMap (Or MapFault) = λ x. Err x in
    (fault : MapFault) → told e ≡ told (Fault fault) → (m : BaseMap) → ¬ (IsListing bytes m)) → ReadsListing bytes r
not_listed bytes e (Ok m) gives refuses none = absurd gives
not_listed bytes (Fault fault) (Err o) gives refuses none = inr (fault, gives, refuses, none fault refl)
not_listed bytes Memory (Err o) gives refuses none = inl gives

-- ---- what comes of a map

module _ (source : Source) (told : Which → List ℕ → Told) (rose : Which → Type 0) (P : BaseMap → Outcome → Type 0) (f : BaseMap → Outcome) where
  -- what comes where no map is read
  pub without_map : (o : Outcome) → ReadsMap source told rose (Err o) → Answering (files_of_map source) (OfMap source P) (of_map source f) told rose o
  without_map o (inl failed) = inl failed
  without_map o (inr (inl memory)) = inr (inl memory)
  without_map o (inr (inr h)) =
      let r = h.2 in
      inr (inr (h.0, h.1, inl (r.0, r.2, r.1), rw (r.3, of_map) r.1, subst IsOfFiles (sym r.1) tt))

  -- what comes of a map that is read
  pub with_map : (m : BaseMap) (o : Outcome) → ReadsMap source told rose (Ok m)
      → (o ≡ OutOfMemory) ⊎ (P m o × (o ≡ f m) × IsOfFiles o) → Answering (files_of_map source) (OfMap source P) (of_map source f) told rose o
  with_map m o h (inl memory) = inr (inl memory)
  with_map m o h (inr says) = inr (inr (h.0, h.1, inr (m, h.2, says.0), rw (h.3, of_map) says.1, says.2))
