-- What a link for a test holds.
use Rattle.std.specs.Prelude.{◌≡◌, ℕ, Bool, List}
use Rattle.plain_io.specs.declared.link.held.HeldLink.{HeldLink}
use Rattle.plain_io.specs.Inputs.{given_of, rest_of, ended_of}
use Rattle.plain_io.specs.Held.{bytes_of, put_faults}
use Rattle.plain_io.specs.Held as Held

-- the bytes that were taken
abbrev pub taken_of : HeldLink → List ℕ
taken_of link = given_of link.input

-- the bytes that are left to be taken
abbrev pub left_of : HeldLink → List ℕ
left_of link = rest_of link.input

-- whether a take answered 0
abbrev pub is_ended : HeldLink → Bool
is_ended link = ended_of link.input

-- how often a take has failed
abbrev pub take_faults_of : HeldLink → ℕ
take_faults_of link = link.take_faults

-- the bytes that were put
abbrev pub told_of : HeldLink → List ℕ
told_of link = bytes_of link.output

-- how often a put has failed
abbrev pub put_faults_of : HeldLink → ℕ
put_faults_of link = put_faults link.output

-- how many bytes may be put in all
abbrev pub room_of : HeldLink → ℕ
room_of link = Held.room_of link.output

-- all stays, but for what is left to be taken
abbrev pub SameButLeft : HeldLink → HeldLink → Type 0
SameButLeft old new =
    (taken_of new ≡ taken_of old) × (told_of new ≡ told_of old) × (take_faults_of new ≡ take_faults_of old)
    × (put_faults_of new ≡ put_faults_of old) × (is_ended new ≡ is_ended old) × (room_of new ≡ room_of old)
