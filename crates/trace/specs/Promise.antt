-- What each entry point answers, in the paper's numbers, and what it leaves in the lent lists. Assumes nothing.
use Rattle.std.specs.Prelude.{ℕ, min, ◌≡◌, List, ◌++◌, map, length, drop, Result}
use Rattle.amounts.specs.Requests.{Request}
use Rattle.amounts.specs.declared.settings.Settings.{Settings}
use Rattle.card.specs.declared.Refusal.{Refusal}
use Rattle.trace.specs.Reading.{part_read, file_read, rows}
use Rattle.trace.specs.Writing.{Put, part_put, file_put, written}
use Rattle.trace.specs.Cards.{answer_card, file_card, part_answer, file_answer, put_card}

-- document 01, "Trace bytes": a list with s over its front; entries past the count aren't written
abbrev pub over : {A : Type 0} → List A → List A → List A
over s d = s ++ drop (length s) d

-- document 01, "Trace bytes": what goes to each of the three lists, one entry a request
abbrev pub files_of : List Request → List ℕ
files_of l = map (λ (q : Request). q.file) l

abbrev pub sizes_of : List Request → List ℕ
sizes_of l = map (λ (q : Request). q.size) l

abbrev pub costs_of : List Request → List ℕ
costs_of l = map (λ (q : Request). q.cost) l

-- the three lists afterwards, with the requests l over their fronts
pub record Over (l : List Request) (f s d f' s' d' : List ℕ) : Type 0 where
  pub in_files : f' ≡ over (files_of l) f
  pub in_sizes : s' ≡ over (sizes_of l) s
  pub in_costs : d' ≡ over (costs_of l) d

-- document 01, "Numbers on the red card", 6: how many requests the three lists have room for
abbrev pub room : List ℕ → List ℕ → List ℕ → ℕ
room f s d = min (length f) (min (length s) (length d))

-- `read_part` answers r and leaves f', s' and d' in the lists
pub record ReadPart (catalogue : ℕ) (part : List ℕ) (f s d : List ℕ) (r : Result ℕ Refusal) (f' s' d' : List ℕ) : Type 0 where
  pub answer : answer_card r ≡ part_answer catalogue part (room f s d)
  pub lists : Over (rows (part_read catalogue part (room f s d))) f s d f' s' d'

-- `read_file` answers r and leaves f', s' and d' in the lists
pub record ReadFile (trace : List ℕ) (f s d : List ℕ) (r : Result (Settings × ℕ) Refusal) (f' s' d' : List ℕ) : Type 0 where
  pub answer : file_card r ≡ file_answer trace (room f s d)
  pub lists : Over (rows (file_read trace (room f s d))) f s d f' s' d'

-- a writer that is to put p answers r and leaves o' in the buffer
pub record Wrote (p : Put) (o : List ℕ) (r : Result ℕ Refusal) (o' : List ℕ) : Type 0 where
  pub answer : answer_card r ≡ put_card p
  pub buffer : o' ≡ over (written p) o

-- `write_part` answers r and leaves o' in the buffer o
abbrev pub WrotePart : ℕ → List ℕ → List ℕ → List ℕ → List ℕ → Result ℕ Refusal → List ℕ → Type 0
WrotePart catalogue f s d o r o' = Wrote (part_put catalogue (length o) f s d) o r o'

-- `write_file` answers r and leaves o' in the buffer o
abbrev pub WroteFile : Settings → List ℕ → List ℕ → List ℕ → List ℕ → Result ℕ Refusal → List ℕ → Type 0
WroteFile settings f s d o r o' = Wrote (file_put settings (length o) f s d) o r o'
