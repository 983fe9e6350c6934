-- Nothing is written on a refusal: where the number in the word is not 0, every lent entry is as it was (docs/BOUNDARY.md). Assumes nothing.
use mathlib.Core.Path.{◌≡◌, refl, ap, ◌∙◌}
use mathlib.Core.Bool.{Bool, true, false}
use mathlib.Core.List.{List, []}
use Prim.Native.Nat.{ℕ, ◌%◌}
use native.Mathlib.Omega.{arith}
use lib.Dec.{leb}
use lib.ListN.{length}
use lib.Ieee.{Float}
use Rattle.std.specs.Prelude.{Result, Ok, Err, ⊤}
use Rattle.amounts.specs.Settings.{in_range}
use Rattle.amounts.specs.declared.settings.Settings.{Settings}
use Rattle.amounts.proofs.Tests.{pick_true, pick_false}
use Rattle.card.specs.Card.{Card, done, refused}
use Rattle.card.specs.declared.Refusal.{Refusal}
use Rattle.trace.specs.Reading.{Read, good, stop, part_read, rows}
use Rattle.trace.specs.Writing.{Put, bytes, written}
use Rattle.trace.specs.Writing as w
use Rattle.trace.specs.Cards.{answer_card, read_card, put_card}
use Rattle.trace.specs.Promise.{over, Over, room}
use Rattle.trace.proofs.OneAnswer.{answer_one}
use Rattle.tables.specs.Tables.{Tables}
use Rattle.tables.specs.Start.{long, start_tables}
use Rattle.ratios.specs.Ratios.{RatioCard, giving, refusing, Rates}
use Rattle.ratios.specs.declared.answer.Ratios.{Ratios}
use Rattle.ratios.proofs.Rating.{Case, empty, broken, past, whole, case_of}
use Rattle.replay.specs.Carrying.{Answers}
use Rattle.replay.proofs.Cases.{due_here, answers}
use Rattle.words.specs.Words.{answer_word, tally_in}
use Rattle.words.proofs.Wording.{number_in}
use Rattle.snailstamp.specs.Rates.{fitted, PutRated, RatesWords, RatioWords}
use Rattle.snailstamp.specs.Run.{enough, fresh_card, fresh_words, fresh_tables, FreshWords, carried_words, CarriedOn, worded, WordsSettle, CarriedWords}
use Rattle.snailstamp.specs.Traces.{file_taken, ReadFileAs, ReadFileWords, ReadPartWords, WroteWords}
use Rattle.snailstamp.proofs.Rating.{fits_refusing}

-- the word of a card with the number 0 is no refusal
done_number : (r : ℕ) (c : Card) → c.number ≡ 0 → r ≡ answer_word c → r % 256 ≡ 0
done_number r c z e = ap (λ (n : ℕ). n % 256) e ∙ number_in c (omega arith) ∙ z

-- `snailstamp_fresh`
pub fresh_still : (s : Settings) (w : List ℕ) (t : Tables) (r : ℕ) (w' : List ℕ) (u : Tables) → FreshWords s w t r w' u → (r % 256 ≡ 0 → ⊥) → (w' ≡ w) × (u ≡ t)
unfolding fresh_card fresh_words fresh_tables start_tables
fresh_still s w t r w' u f n = go (in_range s) (enough w) (long s t) refl refl refl
  where
    go : (x y z : Bool) → in_range s ≡ x → enough w ≡ y → long s t ≡ z → (w' ≡ w) × (u ≡ t)
    go true true true a b c = absurd (n (done_number r (done []) refl (f.answer ∙ rw (a, b, c))))
    go true true false a b c = (f.tally ∙ rw (a, b, c), f.lent ∙ rw (a, b, c))
    go true false z a b c = (f.tally ∙ rw (a, b), f.lent ∙ rw b)
    go false true z a b c = (f.tally ∙ rw a, f.lent ∙ rw (a, b))
    go false false z a b c = (f.tally ∙ rw a, f.lent ∙ rw b)

-- `snailstamp_carry_on`
module _ (unit : ℕ) (part w : List ℕ) (t : Tables) (told : List ℕ) (r : ℕ) (w' : List ℕ) (u : Tables) (told' : List ℕ) (n : r % 256 ≡ 0 → ⊥) where
  carried_still : CarriedOn unit part w t told r w' u told' → (w' ≡ w) × (u ≡ t) × (told' ≡ told)
  carried_still f = go (due_here (tally_in w) t told unit part) (answers (tally_in w) t told unit part f.carried u told' f.carries)
    where
      go : (z : Result ℕ Refusal) → Answers (tally_in w) t told f.carried u told' part z → (w' ≡ w) × (u ≡ t) × (told' ≡ told)
      go (Ok k) h = absurd (n (done_number r (answer_card f.carried.answer) (ap (λ (c : Card). c.number) h.answer) f.answer))
      go (Err x) h = (f.tally ∙ ap (λ (z : Result ℕ Refusal). carried_words z f.carried.tally w) (answer_one f.carried.answer (Err x) h.answer), h.lent, h.untold)

  pub carry_still : CarriedWords unit part w t told r w' u told' → (w' ≡ w) × (u ≡ t) × (told' ≡ told)
  carry_still f = go (worded unit w) f.judged
    where
      go : (x : Result ⊤ Refusal) → WordsSettle unit part w t told r w' u told' x → (w' ≡ w) × (u ≡ t) × (told' ≡ told)
      go (Ok tt) h = carried_still h
      go (Err x) h = (h.tally, h.lent, h.untold)

-- the readers
module _ (r : ℕ) (n : r % 256 ≡ 0 → ⊥) where
  pub read_file_still : (trace w f s d w' f' s' d' : List ℕ) → ReadFileWords trace w f s d r w' f' s' d' → (w' ≡ w) × (f' ≡ f) × (s' ≡ s) × (d' ≡ d)
  read_file_still trace w f s d w' f' s' d' h = go (file_taken trace w (room f s d)) h
    where
      go : (x : Read) → ReadFileAs x trace w f s d r w' f' s' d' → (w' ≡ w) × (f' ≡ f) × (s' ≡ s) × (d' ≡ d)
      go (good l) h = absurd (n (done_number r (read_card [] (good l)) refl h.answer))
      go (stop x) h = (h.settings, h.lists.in_files, h.lists.in_sizes, h.lists.in_costs)

  pub read_part_still : (c : ℕ) (part f s d f' s' d' : List ℕ) → ReadPartWords c part f s d r f' s' d' → (f' ≡ f) × (s' ≡ s) × (d' ≡ d)
  read_part_still c part f s d f' s' d' h = go (part_read c part (room f s d)) h.answer h.lists
    where
      go : (x : Read) → r ≡ answer_word (read_card [] x) → Over (rows x) f s d f' s' d' → (f' ≡ f) × (s' ≡ s) × (d' ≡ d)
      go (good l) e o = absurd (n (done_number r (read_card [] (good l)) refl e))
      go (stop x) e o = (o.in_files, o.in_sizes, o.in_costs)

  -- the writers
  pub wrote_still : (p : Put) (o o' : List ℕ) → WroteWords p o r o' → o' ≡ o
  wrote_still p o o' h = go p h.answer h.buffer
    where
      go : (x : Put) → r ≡ answer_word (put_card x) → o' ≡ over (written x) o → o' ≡ o
      go (bytes bs) e b = absurd (n (done_number r (put_card (bytes bs)) refl e))
      go (w.stop x) e b = b

-- the ratios
module _ (l : List Float) (r : ℕ) (n : r % 256 ≡ 0 → ⊥) (l' : List Float) where
  refusing_still : (x : RatioCard) (c : Card) → x ≡ refusing c → PutRated x l r l' → l' ≡ l
  refusing_still x c e p = p.list ∙ ap (λ (z : RatioCard). over z.doubles l) (ap (fitted l) e ∙ fits_refusing l c)

  giving_still : (x : RatioCard) (y : Ratios) → x ≡ giving y → PutRated x l r l' → l' ≡ l
  giving_still x y e p = go (leb 2 (length l)) refl
    where
      go : (b : Bool) → leb 2 (length l) ≡ b → l' ≡ l
      go true h = absurd (n (done_number r (done []) refl (p.answer ∙ ap (λ (z : RatioCard). answer_word z.card) (ap (fitted l) e ∙ pick_true _ _ h))))
      go false h = p.list ∙ ap (λ (z : RatioCard). over z.doubles l) (ap (fitted l) e ∙ pick_false _ _ h)

  pub ratios_still : (w : List ℕ) → RatioWords w l r l' → l' ≡ l
  ratios_still w f = go (enough w) f.rates
    where
      rated : Case (tally_in w) → Rates (tally_in w) f.due → l' ≡ l
      rated (empty e) p = refusing_still f.due (refused 11 []) (p.none e) f.put
      rated (broken m nc) p = refusing_still f.due (refused 7 []) (p.unsound m nc) f.put
      rated (past m h k) p = refusing_still f.due (refused 12 []) (p.inexact m h k) f.put
      rated (whole m h k) p = giving_still f.due _ (p.rated m h k) f.put

      go : (b : Bool) → RatesWords w f.due b → l' ≡ l
      go false p = refusing_still f.due (refused 2 []) p f.put
      go true p = rated (case_of (tally_in w)) p
