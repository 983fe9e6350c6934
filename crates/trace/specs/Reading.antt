-- What reading bytes to the end means (document 01, "Trace bytes"). Assumes nothing.
use Rattle.std.specs.Prelude.{ℕ, zero, suc, ◌≡◌, List, [], ◌∷◌, length, leb}
use Rattle.amounts.specs.Limits.{pick, is_unit, is_policy, is_capacity, is_places, is_catalogue, is_size, is_cost}
use Rattle.amounts.specs.Requests.{Request}
use Rattle.amounts.specs.declared.settings.Settings.{Settings}
use Rattle.card.specs.declared.Refusal.{Refusal}
use Rattle.card.specs.declared.Refusal.TheVariants.{Setting, Range, Room}
use Rattle.trace.specs.Fields.{field, on_val, is_file}

-- the requests that were read, or the refusal
pub data Read : Type 0 where
  good : List Request → Read
  stop : Refusal → Read

-- one request before the others
abbrev pub push : Request → Read → Read
push q (good l) = good (q ∷ l)
push q (stop r) = stop r

-- document 01, "Trace bytes": requests to the end, file, size, cost. n is the length of all the bytes; k bounds the requests
abbrev pub requests : ℕ → ℕ → ℕ → List ℕ → Read
requests n catalogue zero [] = good []
requests n catalogue zero (b ∷ t) = stop Room
requests n catalogue (suc k) [] = good []
requests n catalogue (suc k) (b ∷ t) =
    on_val stop (field n (is_file catalogue) Range (b ∷ t))
    (λ file s₁. on_val stop (field n is_size Range s₁)
    (λ size s₂. on_val stop (field n is_cost Range s₂)
    (λ cost s₃. push (record { file = file; size = size; cost = cost }) (requests n catalogue k s₃))))

-- no part has more requests than bytes, so the bound never counts (`read_cons`)
unfoldable pub read_of : ℕ → ℕ → List ℕ → Read
read_of n catalogue s = requests n catalogue (length s) s

-- document 01, "Numbers on the red card": 1 gives the number only
abbrev pub setting : ℕ → Refusal
setting _ = Setting

-- the settings with the bytes after them, or the refusal
pub data Opened : Type 0 where
  opened : Settings → List ℕ → Opened
  shut : Refusal → Opened

-- document 01, "Trace bytes" and "Order": unit, policy, capacity, places, catalogue, judged field by field (3 or 1)
unfoldable pub settings_of : ℕ → List ℕ → Opened
settings_of n s =
    on_val shut (field n is_unit setting s)
    (λ unit s₁. on_val shut (field n is_policy setting s₁)
    (λ policy s₂. on_val shut (field n is_capacity setting s₂)
    (λ capacity s₃. on_val shut (field n is_places setting s₃)
    (λ places s₄. on_val shut (field n is_catalogue setting s₄)
    (λ catalogue s₅. opened (record { unit = record { 0 = unit }; policy = record { 0 = policy }; capacity = record { 0 = capacity }; places = record { 0 = places }; catalogue = record { 0 = catalogue } }) s₅)))))

-- document 01, "Numbers on the red card", 6: a reader's list too short
abbrev pub roomy : ℕ → Read → Read
roomy room (good l) = pick (leb (length l) room) (good l) (stop Room)
roomy room (stop r) = stop r

-- document 01, "Order", a further part: 1, then 3 and 4 by place, then 6
unfoldable pub part_read : ℕ → List ℕ → ℕ → Read
part_read catalogue part room = pick (is_catalogue catalogue) (roomy room (read_of (length part) catalogue part)) (stop Setting)

-- the requests of a file, where n is its length
abbrev pub after_settings : ℕ → ℕ → Opened → Read
after_settings n room (opened s rest) = roomy room (read_of n s.catalogue.0 rest)
after_settings n room (shut r) = stop r

-- document 01, "Order", a file: its settings field by field (3 or 1), then 3 and 4 by place, then 6
unfoldable pub file_read : List ℕ → ℕ → Read
file_read trace room = after_settings (length trace) room (settings_of (length trace) trace)

-- document 01, "Order": the requests that are put into the lists, none where the read is refused
abbrev pub rows : Read → List Request
rows (good l) = l
rows (stop r) = []

-- document 01, "Trace bytes": the bytes of a file read as these settings and these requests
pub record FileReads (trace : List ℕ) (s : Settings) (l : List Request) : Type 0 where
  pub rest : List ℕ
  pub settings : settings_of (length trace) trace ≡ opened s rest
  pub requests : read_of (length trace) s.catalogue.0 rest ≡ good l
