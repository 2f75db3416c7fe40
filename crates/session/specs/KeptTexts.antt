-- The texts that are kept of what was asked for last.
use Rattle.std.specs.Prelude.{◌≡◌, ℕ, length}
use Rattle.session.specs.declared.kept_texts.ReplyKey.{ReplyKey}
use Rattle.session.specs.declared.kept_texts.KeptText.{KeptText}

-- how many bytes it has
abbrev pub size_of : KeptText → ℕ
size_of kept = length kept.text

-- it is the reply to this
abbrev pub IsFor : ReplyKey → KeptText → Type 0
IsFor key kept = kept.key ≡ key
