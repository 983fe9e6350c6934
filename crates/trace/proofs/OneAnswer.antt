-- Each promise admits one answer and one content of the lent lists (document 01, "How much each promise says"). Assumes nothing.
use Prim.Native.Nat.{ℕ, ◌+◌}
use mathlib.Core.Path.{◌≡◌, refl, ap, sym, ◌∙◌}
use mathlib.Core.List.{List}
use native.Mathlib.Omega.{arith}
use lib.ListN.{length, drop, get_or, length-drop}
use lib.Seq.{get_or-drop}
use Rattle.std.specs.Prelude.{Result, Ok, Err}
use Rattle.amounts.specs.Requests.{Request}
use Rattle.amounts.specs.declared.settings.Settings.{Settings}
use Rattle.card.specs.declared.Refusal.{Refusal}
use Rattle.card.proofs.Cases.{answer_on, bad_on}
use Rattle.trace.specs.Number.{AreBytes}
use Rattle.trace.specs.Writing.{Put}
use Rattle.trace.specs.Cards.{answer_card, file_card, opening_card, opening_answer}
use Rattle.trace.specs.Promise.{Over, ReadPart, ReadFile, Wrote, WrotePart, WroteFile}
use Rattle.trace.specs.Steps.{Requested, RequestAt}
use Rattle.trace.specs.declared.reader.Taken.{Taken}
use Rattle.trace.proofs.Answers.{settings_in}
use Rattle.trace.proofs.RoundTrip.{part_one}

-- no two answers have the same card: each is read back from its own

abbrev done_with : List ℕ → Result ℕ Refusal
done_with v = Ok (get_or v 0 0)

answer_back : (a : Result ℕ Refusal) → answer_on done_with Err (answer_card a) ≡ a
answer_back (Ok n) = refl
answer_back (Err r) = bad_on done_with Err r

pub answer_one : (a a' : Result ℕ Refusal) → answer_card a ≡ answer_card a' → a ≡ a'
answer_one a a' e = sym (answer_back a) ∙ ap (answer_on done_with Err) e ∙ answer_back a'

abbrev read_with : List ℕ → Result (Settings × ℕ) Refusal
read_with v = Ok (settings_in v, get_or v 5 0)

file_back : (a : Result (Settings × ℕ) Refusal) → answer_on read_with Err (file_card a) ≡ a
file_back (Ok (s, n)) = refl
file_back (Err r) = bad_on read_with Err r

pub file_answer_one : (a a' : Result (Settings × ℕ) Refusal) → file_card a ≡ file_card a' → a ≡ a'
file_answer_one a a' e = sym (file_back a) ∙ ap (answer_on read_with Err) e ∙ file_back a'

abbrev opened_with : List ℕ → Result (Settings × ℕ) Refusal
opened_with v = Ok (settings_in v, get_or v 5 0)

start_back : (a : Result (Settings × ℕ) Refusal) → answer_on opened_with Err (opening_card a) ≡ a
start_back (Ok (s, at)) = refl
start_back (Err r) = bad_on opened_with Err r

-- `settings_at`
pub settings_at_one : (trace : List ℕ) (r r' : Result (Settings × ℕ) Refusal) → opening_card r ≡ opening_answer trace → opening_card r' ≡ opening_answer trace → r ≡ r'
settings_at_one trace r r' p q = sym (start_back r) ∙ ap (answer_on opened_with Err) (p ∙ sym q) ∙ start_back r'

-- `request_at`
pub request_at_one : (part : List ℕ) (at : ℕ) → AreBytes part → Requested part at → (r r' : Taken) → RequestAt part at r → RequestAt part at r' → r ≡ r'
unfolding AreBytes
request_at_one part at bytes there r r' p q =
    let f = p.first _ _ _ _ there.catalogue_in there.reads in
    let g = q.first _ _ _ _ there.catalogue_in there.reads in
    let after : (k : ℕ) → AreBytes (drop k part) = (λ k i. rw (get_or-drop k part i 0) (bytes (k + i))) in
    let same : drop r.next part ≡ drop r'.next part = part_one _ _ _ _ _ _ (after r.next) (after r'.next) f.rest g.rest in
    let next : r.next ≡ r'.next = omega (arith, f.inside, g.inside, ap length same, length-drop r.next part, length-drop r'.next part) in
    λ i. record { request = record { file = (f.file ∙ sym g.file) i; size = (f.size ∙ sym g.size) i; cost = (f.cost ∙ sym g.cost) i }; next = next i }

over_one : (l : List Request) (f s d f₁ s₁ d₁ f₂ s₂ d₂ : List ℕ) → Over l f s d f₁ s₁ d₁ → Over l f s d f₂ s₂ d₂ → (f₁ ≡ f₂) × (s₁ ≡ s₂) × (d₁ ≡ d₂)
over_one l f s d f₁ s₁ d₁ f₂ s₂ d₂ p q = (p.in_files ∙ sym q.in_files, p.in_sizes ∙ sym q.in_sizes, p.in_costs ∙ sym q.in_costs)

-- `read_part`
pub read_part_one : (c : ℕ) (part f s d : List ℕ) (r : Result ℕ Refusal) (f₁ s₁ d₁ : List ℕ) (r' : Result ℕ Refusal) (f₂ s₂ d₂ : List ℕ) → ReadPart c part f s d r f₁ s₁ d₁ → ReadPart c part f s d r' f₂ s₂ d₂
    → (r ≡ r') × (f₁ ≡ f₂) × (s₁ ≡ s₂) × (d₁ ≡ d₂)
read_part_one c part f s d r f₁ s₁ d₁ r' f₂ s₂ d₂ p q =
    let o = over_one _ f s d f₁ s₁ d₁ f₂ s₂ d₂ p.lists q.lists in
    (answer_one r r' (p.answer ∙ sym q.answer), o.0, o.1, o.2)

-- `read_file`
pub read_file_one : (trace f s d : List ℕ) (r : Result (Settings × ℕ) Refusal) (f₁ s₁ d₁ : List ℕ) (r' : Result (Settings × ℕ) Refusal) (f₂ s₂ d₂ : List ℕ) → ReadFile trace f s d r f₁ s₁ d₁ → ReadFile trace f s d r' f₂ s₂ d₂
    → (r ≡ r') × (f₁ ≡ f₂) × (s₁ ≡ s₂) × (d₁ ≡ d₂)
read_file_one trace f s d r f₁ s₁ d₁ r' f₂ s₂ d₂ p q =
    let o = over_one _ f s d f₁ s₁ d₁ f₂ s₂ d₂ p.lists q.lists in
    (file_answer_one r r' (p.answer ∙ sym q.answer), o.0, o.1, o.2)

pub wrote_one : (p : Put) (o : List ℕ) (r : Result ℕ Refusal) (o₁ : List ℕ) (r' : Result ℕ Refusal) (o₂ : List ℕ) → Wrote p o r o₁ → Wrote p o r' o₂ → (r ≡ r') × (o₁ ≡ o₂)
wrote_one p o r o₁ r' o₂ h k = (answer_one r r' (h.answer ∙ sym k.answer), h.buffer ∙ sym k.buffer)

-- `write_part`
pub write_part_one : (c : ℕ) (f s d o : List ℕ) (r : Result ℕ Refusal) (o₁ : List ℕ) (r' : Result ℕ Refusal) (o₂ : List ℕ) → WrotePart c f s d o r o₁ → WrotePart c f s d o r' o₂ → (r ≡ r') × (o₁ ≡ o₂)
write_part_one c f s d o r o₁ r' o₂ h k = wrote_one _ o r o₁ r' o₂ h k

-- `write_file`
pub write_file_one : (st : Settings) (f s d o : List ℕ) (r : Result ℕ Refusal) (o₁ : List ℕ) (r' : Result ℕ Refusal) (o₂ : List ℕ) → WroteFile st f s d o r o₁ → WroteFile st f s d o r' o₂ → (r ≡ r') × (o₁ ≡ o₂)
write_file_one st f s d o r o₁ r' o₂ h k = wrote_one _ o r o₁ r' o₂ h k
