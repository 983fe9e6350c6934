-- What reading a Squid log promises in words (docs/BOUNDARY.md). Assumes nothing.
use Rattle.std.specs.Prelude.{ℕ, List, length}
use Rattle.amounts.specs.declared.settings.Settings.{Settings}
use Rattle.squid.specs.Logs.{part_put, file_put}
use Rattle.snailstamp.specs.Traces.{WroteWords}

-- docs/BOUNDARY.md, what `snailstamp_squid_part` promises
abbrev pub SquidPartWords : ℕ → List ℕ → List ℕ → ℕ → List ℕ → Type 0
SquidPartWords catalogue log o r o' = WroteWords (part_put catalogue (length o) log) o r o'

-- docs/BOUNDARY.md, what `snailstamp_squid_file` promises
abbrev pub SquidFileWords : Settings → List ℕ → List ℕ → ℕ → List ℕ → Type 0
SquidFileWords settings log o r o' = WroteWords (file_put settings (length o) log) o r o'
