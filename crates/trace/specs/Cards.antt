-- The paper's number and values of each answer (document 01, "Numbers on the red card"). Assumes nothing.
use Rattle.std.specs.Prelude.{ℕ, List, [], ◌∷◌, ◌++◌, length, Result, Ok, Err}
use Rattle.amounts.specs.declared.settings.Settings.{Settings}
use Rattle.card.specs.declared.Refusal.{Refusal}
use Rattle.card.specs.Card.{Card, done, card_of}
use Rattle.trace.specs.Fields.{offset}
use Rattle.trace.specs.Reading.{Read, good, stop, Opened, opened, shut, settings_of, part_read, file_read}
use Rattle.trace.specs.Writing as w

-- document 01, "The forms we use": the number and values of each case of an answer
abbrev pub answer_card : Result ℕ Refusal → Card
answer_card (Ok n) = done (n ∷ [])
answer_card (Err r) = card_of r

-- document 01, "Trace bytes": the five settings in their order
abbrev pub numbers : Settings → List ℕ
numbers s = s.unit.0 ∷ s.policy.0 ∷ s.capacity.0 ∷ s.places.0 ∷ s.catalogue.0 ∷ []

-- document 01, "The forms we use": the same for a file, whose result begins with its settings
abbrev pub file_card : Result (Settings × ℕ) Refusal → Card
file_card (Ok (s, n)) = done (numbers s ++ (n ∷ []))
file_card (Err r) = card_of r

-- document 01, "The forms we use": the same for the front of a file: its settings, then the offset after them
abbrev pub opening_card : Result (Settings × ℕ) Refusal → Card
opening_card (Ok (s, at)) = done (numbers s ++ (at ∷ []))
opening_card (Err r) = card_of r

-- document 01, "Numbers on the red card", reading: how many requests, behind what `front` gives; or the refusal
abbrev pub read_card : List ℕ → Read → Card
read_card front (good l) = done (front ++ (length l ∷ []))
read_card front (stop r) = card_of r

-- the settings that were read
abbrev pub settings_read : Opened → List ℕ
settings_read (opened s rest) = numbers s
settings_read (shut r) = []

-- document 01, "Order": what the settings of n bytes answer, 3 or 1 where they are refused
abbrev pub opened_card : ℕ → Opened → Card
opened_card n (opened s rest) = done (numbers s ++ (offset n rest ∷ []))
opened_card n (shut r) = card_of r

unfoldable pub opening_answer : List ℕ → Card
opening_answer trace = opened_card (length trace) (settings_of (length trace) trace)

-- document 01, "Order": what reading a further part answers, where the lists have room for as many requests
abbrev pub part_answer : ℕ → List ℕ → ℕ → Card
part_answer catalogue part room = read_card [] (part_read catalogue part room)

-- document 01, "Order": what reading a file answers
abbrev pub file_answer : List ℕ → ℕ → Card
file_answer trace room = read_card (settings_read (settings_of (length trace) trace)) (file_read trace room)

-- document 01, "Numbers on the red card", writing: how many bytes, or the refusal
abbrev pub put_card : w.Put → Card
put_card (w.bytes bs) = done (length bs ∷ [])
put_card (w.stop r) = card_of r
