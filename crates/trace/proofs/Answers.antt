-- What the readers answer at each of their returns. Assumes nothing.
use Prim.Native.Nat.{ℕ, ◌+◌, ◌≤◌, ◌<◌}
use mathlib.Core.Path.{◌≡◌, refl, ap, sym, ◌∙◌}
use mathlib.Core.List.{List, [], ◌∷◌, ◌++◌}
use mathlib.Core.Bool.{true, false}
use native.Mathlib.Omega.{arith}
use borrow.Author.Tests.{le-leb, lt-leb}
use lib.ListN.{length, drop, get_or}
use Rattle.std.specs.Prelude.{Result, Ok, Err}
use Rattle.amounts.specs.Limits.{is_catalogue}
use Rattle.amounts.specs.declared.settings.Settings.{Settings}
use Rattle.card.specs.Card.{Card, done, card_of}
use Rattle.card.specs.declared.Refusal.{Refusal}
use Rattle.card.specs.declared.Refusal.TheVariants.{Setting, Room}
use Rattle.card.proofs.Cases.{done_not_refused, refusal_one}
use Rattle.trace.specs.Fields.{offset}
use Rattle.trace.specs.Reading.{Read, good, stop, read_of, roomy, rows, Opened, opened, shut, settings_of, part_read, file_read}
use Rattle.trace.specs.Cards.{answer_card, read_card, numbers, opening_card, opened_card, opening_answer}
use Rattle.trace.specs.Promise.{Over, room, ReadPart, ReadFile}
use Rattle.trace.specs.Steps.{counted, ReadFrom}
use Rattle.trace.proofs.Enough.{after_drop}
use Rattle.trace.proofs.Fields.{offset_drop}
use Rattle.trace.proofs.Taking.{five, five_after}

module _ (f s d : List ℕ) where
  untouched : Over [] f s d f s d
  untouched = record { in_files = refl; in_sizes = refl; in_costs = refl }

  -- the requests are refused, have no room, or are put into the lists
  pub from_refused : (x : Read) (r : Refusal) → Err r ≡ counted 0 x → ReadFrom x f s d (Err r) f s d
  from_refused (good l) r e = let z : ◌≡◌ {A = ℕ} 0 1 = cc in absurd (omega arith)
  from_refused (stop a) r e = record { answer = e; lists = untouched }

  pub from_room : (x : Read) (count : ℕ) → Ok count ≡ counted 0 x → room f s d < count → ReadFrom x f s d (Err Room) f s d
  from_room (good l) count e h =
      let n : count ≡ 0 + length l = cc in
      let t = lt-leb (length l) (room f s d) (omega arith) in
      record { answer = rw t; lists = rw t untouched }
  from_room (stop a) count e h = let z : ◌≡◌ {A = ℕ} 0 1 = cc in absurd (omega arith)

  pub from_done : (x : Read) (count : ℕ) (f' s' d' : List ℕ) → Ok count ≡ counted 0 x → count ≤ room f s d → Over (rows x) f s d f' s' d' → ReadFrom x f s d (Ok count) f' s' d'
  from_done (good l) count f' s' d' e h o =
      let n : count ≡ 0 + length l = cc in
      let t = le-leb (length l) (room f s d) (omega arith) in
      record { answer = rw t e; lists = rw t o }
  from_done (stop a) count f' s' d' e h o = let z : ◌≡◌ {A = ℕ} 0 1 = cc in absurd (omega arith)

-- the settings that stand at the front of a card's values
abbrev pub settings_in : List ℕ → Settings
settings_in v =
    record {
      unit = record { 0 = get_or v 0 0 };
      policy = record { 0 = get_or v 1 0 };
      capacity = record { 0 = get_or v 2 0 };
      places = record { 0 = get_or v 3 0 };
      catalogue = record { 0 = get_or v 4 0 };
    }

-- the card of an answer is the card of the read
card_refused : (front : List ℕ) (x : Read) (r : Refusal) → Err r ≡ counted 0 x → card_of r ≡ read_card front x
card_refused front (good l) r e = let z : ◌≡◌ {A = ℕ} 0 1 = cc in absurd (omega arith)
card_refused front (stop a) r e = let h : r ≡ a = cc in ap card_of h

card_done : (front : List ℕ) (x : Read) (m : ℕ) → Ok m ≡ counted 0 x → done (front ++ (m ∷ [])) ≡ read_card front x
card_done front (good l) m e = let n : m ≡ 0 + length l = cc in let n' : m ≡ length l = omega arith in ap (λ (k : ℕ). done (front ++ (k ∷ []))) n'
card_done front (stop a) m e = let z : ◌≡◌ {A = ℕ} 0 1 = cc in absurd (omega arith)

card_answer : (x : Read) (r : Result ℕ Refusal) → r ≡ counted 0 x → answer_card r ≡ read_card [] x
card_answer x (Ok m) e = card_done [] x m e
card_answer x (Err a) e = card_refused [] x a e

module _ (f s d : List ℕ) (c : ℕ) (part : List ℕ) where
  pub part_setting : is_catalogue c ≡ false → ReadPart c part f s d (Err Setting) f s d
  unfolding part_read
  part_setting e = record { answer = rw e; lists = rw e (untouched f s d) }

  pub part_from : is_catalogue c ≡ true → (r : Result ℕ Refusal) (f' s' d' : List ℕ) → ReadFrom (read_of (length part) c part) f s d r f' s' d' → ReadPart c part f s d r f' s' d'
  unfolding part_read
  part_from e r f' s' d' h = record { answer = rw e (card_answer (roomy (room f s d) (read_of (length part) c part)) r h.answer); lists = rw e h.lists }

module _ (f s d : List ℕ) (trace : List ℕ) where
  pub file_shut : (r : Refusal) → settings_of (length trace) trace ≡ shut r → ReadFile trace f s d (Err r) f s d
  unfolding file_read
  file_shut r e = record { answer = rw e; lists = rw e (untouched f s d) }

  module _ (st : Settings) (rest : List ℕ) (e : settings_of (length trace) trace ≡ opened st rest) (f' s' d' : List ℕ) (a : Result ℕ Refusal) (h : ReadFrom (read_of (length trace) st.catalogue.0 rest) f s d a f' s' d') where
    x : Read
    x = roomy (room f s d) (read_of (length trace) st.catalogue.0 rest)

    pub file_refused : (r : Refusal) → a ≡ Err r → ReadFile trace f s d (Err r) f' s' d'
    unfolding file_read x
    file_refused r q = record { answer = rw e (card_refused (numbers st) x r (sym q ∙ h.answer)); lists = rw e h.lists }

    pub file_done : (count : ℕ) → a ≡ Ok count → ReadFile trace f s d (Ok (st, count)) f' s' d'
    unfolding file_read x
    file_done count q = record { answer = rw e (card_done (numbers st) x count (sym q ∙ h.answer)); lists = rw e h.lists }

-- what the settings answer
module _ (trace : List ℕ) where
  pub opening_shut : (r : Refusal) → settings_of (length trace) trace ≡ shut r → card_of r ≡ opening_answer trace
  unfolding opening_answer
  opening_shut r e = ap (opened_card (length trace)) (sym e)

  pub opening_at : (st : Settings) (at : ℕ) → at ≤ length trace → settings_of (length trace) trace ≡ opened st (drop at trace) → opening_card (Ok (st, at)) ≡ opening_answer trace
  unfolding opening_answer
  opening_at st at h e = rw (e, offset_drop trace at)

  -- and what the bytes are where they have answered, by the case
  pub start_shut : (x : Result (Settings × ℕ) Refusal) (r : Refusal) → opening_card x ≡ opening_answer trace → x ≡ Err r → settings_of (length trace) trace ≡ shut r
  unfolding opening_answer
  start_shut x r p e = go (settings_of (length trace) trace) (sym (ap opening_card e) ∙ p)
    where
      go : (o : Opened) → card_of r ≡ opened_card (length trace) o → o ≡ shut r
      go (shut y) q = ap shut (refusal_one y r (sym q))
      go (opened s rest) q = absurd (done_not_refused r (sym q))

  pub start_at : (x : Result (Settings × ℕ) Refusal) (st : Settings) (at : ℕ) → opening_card x ≡ opening_answer trace → x ≡ Ok (st, at) → (at ≤ length trace) × (settings_of (length trace) trace ≡ opened st (drop at trace))
  unfolding opening_answer
  start_at x st at p e = go (settings_of (length trace) trace) refl (sym (ap opening_card e) ∙ p)
    where
      go : (o : Opened) → settings_of (length trace) trace ≡ o → opening_card (Ok (st, at)) ≡ opened_card (length trace) o → (at ≤ length trace) × (o ≡ opened st (drop at trace))
      go (shut y) k q = absurd (done_not_refused y q)
      go (opened s rest) k q =
          let same : s ≡ st = ap (λ (c : Card). settings_in c.values) (sym q) in
          let n : at ≡ offset (length trace) rest = ap (λ (c : Card). get_or c.values 5 0) q in
          let last : rest ≡ drop at trace = sym (ap (λ (j : ℕ). drop j trace) n ∙ after_drop (five_after (five (length trace) trace s rest k))) in
          (omega arith, λ i. opened (same i) (last i))
