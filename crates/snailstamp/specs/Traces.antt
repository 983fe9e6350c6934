-- What reading and writing trace bytes promise in words (docs/BOUNDARY.md). Assumes nothing.
use Rattle.std.specs.Prelude.{◌≡◌, Bool, List, [], ℕ, leb, length}
use Rattle.amounts.specs.Limits.{pick}
use Rattle.amounts.specs.declared.settings.Settings.{Settings}
use Rattle.card.specs.declared.Refusal.TheVariants.{Room}
use Rattle.trace.specs.Reading.{Read, good, stop, Opened, settings_of, part_read, file_read, rows}
use Rattle.trace.specs.Writing.{Put, part_put, file_put, written}
use Rattle.trace.specs.Cards.{read_card, settings_read, put_card}
use Rattle.trace.specs.Promise.{over, Over, room}
use Rattle.words.specs.Words.{answer_word, settings_words}

-- docs/BOUNDARY.md: a settings slice shorter than five words is a reader's list too short
abbrev pub placed : List ℕ → Bool
placed w = leb settings_words (length w)

-- docs/BOUNDARY.md: 6, in 6's place
abbrev pub in_place : Bool → Read → Read
in_place fits (good l) = pick fits (good l) (stop Room)
in_place fits (stop r) = stop r

-- docs/BOUNDARY.md: a file read into lists that have room for so many requests, its settings into the words w
unfoldable pub file_taken : List ℕ → List ℕ → ℕ → Read
file_taken trace w n = in_place (placed w) (file_read trace n)

-- docs/BOUNDARY.md: the settings that are put over the words, none where the read is refused
abbrev pub settings_put : Opened → Read → List ℕ
settings_put o (good l) = settings_read o
settings_put o (stop r) = []

-- docs/BOUNDARY.md: the requests or the refusal x, answered with the number of requests; settings and requests over the fronts of what is lent
pub record ReadFileAs (x : Read) (trace w f s d : List ℕ) (r : ℕ) (w' f' s' d' : List ℕ) : Type 0 where
  pub answer : r ≡ answer_word (read_card [] x)
  pub settings : w' ≡ over (settings_put (settings_of (length trace) trace) x) w
  pub lists : Over (rows x) f s d f' s' d'

-- docs/BOUNDARY.md, what `snailstamp_read_file` promises
abbrev pub ReadFileWords : List ℕ → List ℕ → List ℕ → List ℕ → List ℕ → ℕ → List ℕ → List ℕ → List ℕ → List ℕ → Type 0
ReadFileWords trace w f s d r w' f' s' d' = ReadFileAs (file_taken trace w (room f s d)) trace w f s d r w' f' s' d'

-- docs/BOUNDARY.md, what `snailstamp_read_part` promises
pub record ReadPartWords (catalogue : ℕ) (part f s d : List ℕ) (r : ℕ) (f' s' d' : List ℕ) : Type 0 where
  pub answer : r ≡ answer_word (read_card [] (part_read catalogue part (room f s d)))
  pub lists : Over (rows (part_read catalogue part (room f s d))) f s d f' s' d'

-- docs/BOUNDARY.md: a writer that is to put p answers r and leaves o' in the buffer
pub record WroteWords (p : Put) (o : List ℕ) (r : ℕ) (o' : List ℕ) : Type 0 where
  pub answer : r ≡ answer_word (put_card p)
  pub buffer : o' ≡ over (written p) o

-- docs/BOUNDARY.md, what `snailstamp_write_part` promises
abbrev pub WrotePartWords : ℕ → List ℕ → List ℕ → List ℕ → List ℕ → ℕ → List ℕ → Type 0
WrotePartWords catalogue f s d o r o' = WroteWords (part_put catalogue (length o) f s d) o r o'

-- docs/BOUNDARY.md, what `snailstamp_write_file` promises
abbrev pub WroteFileWords : Settings → List ℕ → List ℕ → List ℕ → List ℕ → ℕ → List ℕ → Type 0
WroteFileWords settings f s d o r o' = WroteWords (file_put settings (length o) f s d) o r o'
