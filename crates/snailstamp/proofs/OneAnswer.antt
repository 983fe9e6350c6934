-- Each promise admits one answer and one content of what is lent (document 01, "How much each promise says"). Assumes nothing.
use mathlib.Core.Path.{◌≡◌, refl, ap, sym, ◌∙◌, subst}
use mathlib.Core.Bool.{Bool, true, false}
use mathlib.Core.List.{List}
use Prim.Native.Nat.{ℕ, ◌%◌}
use lib.ListN.{drop}
use lib.Seq.{drop_at}
use lib.Ieee.{Float}
use Rattle.std.specs.Prelude.{Result, Ok, Err, ⊤}
use Rattle.amounts.specs.declared.settings.Settings.{Settings}
use Rattle.card.specs.Card.{card_of}
use Rattle.card.specs.declared.Refusal.{Refusal}
use Rattle.card.proofs.Cases.{refusal_not_done}
use Rattle.trace.specs.Writing.{Put}
use Rattle.trace.specs.Cards.{answer_card}
use Rattle.trace.specs.Promise.{over}
use Rattle.tables.specs.Tables.{Tables}
use Rattle.tables.specs.Start.{words}
use Rattle.tables.specs.Renaming.{Renamed}
use Rattle.tables.specs.declared.tally.Tally.{Tally}
use Rattle.ratios.specs.Ratios.{RatioCard}
use Rattle.ratios.proofs.Rating.{rates_one}
use Rattle.serving.specs.Serving.{beyond_of}
use Rattle.replay.specs.Agreeing.{Left}
use Rattle.replay.proofs.Cases.{due_here, answers, past}
use Rattle.replay.proofs.OneAnswer.{carry_on_one_answer}
use Rattle.words.specs.Words.{answer_word, tally_words, tally_in}
use Rattle.words.proofs.Wording.{number_small, number_in, tally_over}
use Rattle.snailstamp.specs.Rates.{fitted, RatesWords, RatioWords}
use Rattle.snailstamp.specs.Run.{enough, FreshWords, carried_words, CarriedOn, worded, WordsSettle, CarriedWords, AlikeWords}
use Rattle.snailstamp.specs.Logs.{SquidFileWords, SquidPartWords}
use Rattle.snailstamp.specs.Sheets.{SheetWords}
use Rattle.snailstamp.specs.Traces.{ReadFileWords, ReadPartWords, WroteWords, WroteFileWords, WrotePartWords}
use Rattle.snailstamp.proofs.Refusing.{carry_still}

-- `snailstamp_fresh`
pub fresh_one : (s : Settings) (w : List ℕ) (t : Tables) (r₁ r₂ : ℕ) (w₁ w₂ : List ℕ) (u₁ u₂ : Tables) → FreshWords s w t r₁ w₁ u₁ → FreshWords s w t r₂ w₂ u₂ → (r₁ ≡ r₂) × (w₁ ≡ w₂) × (u₁ ≡ u₂)
fresh_one s w t r₁ r₂ w₁ w₂ u₁ u₂ f g = (f.answer ∙ sym g.answer, f.tally ∙ sym g.tally, f.lent ∙ sym g.lent)

-- `snailstamp_carry_on`
module _ (unit : ℕ) (part w : List ℕ) (t : Tables) (told : List ℕ) where
  -- entries beyond the needed ones, and words past the tally's, are as they were, whatever the answer
  module _ (r : ℕ) (w' : List ℕ) (u : Tables) (told' : List ℕ) where
    beyond_carried : CarriedOn unit part w t told r w' u told' → (beyond_of (tally_in w).settings u ≡ beyond_of (tally_in w).settings t) × (drop tally_words w' ≡ drop tally_words w)
    beyond_carried f =
        let x = answers (tally_in w) t told unit part f.carried u told' f.carries in
        (past (tally_in w) t told f.carried u told' part (due_here (tally_in w) t told unit part) x, ap (drop tally_words) f.tally ∙ go f.carried.answer)
      where
        go : (z : Result ℕ Refusal) → drop tally_words (carried_words z f.carried.tally w) ≡ drop tally_words w
        go (Ok n) = drop_at (words f.carried.tally) (drop tally_words w) tally_words refl
        go (Err x) = refl

    pub carry_beyond : CarriedWords unit part w t told r w' u told' → (beyond_of (tally_in w).settings u ≡ beyond_of (tally_in w).settings t) × (drop tally_words w' ≡ drop tally_words w)
    carry_beyond f = go (worded unit w) f.judged
      where
        go : (x : Result ⊤ Refusal) → WordsSettle unit part w t told r w' u told' x → (beyond_of (tally_in w).settings u ≡ beyond_of (tally_in w).settings t) × (drop tally_words w' ≡ drop tally_words w)
        go (Ok tt) h = beyond_carried h
        go (Err x) h = (ap (beyond_of (tally_in w).settings) h.lent, ap (drop tally_words) h.tally)

  module _ (r₁ r₂ : ℕ) (w₁ w₂ : List ℕ) (u₁ u₂ : Tables) (told₁ told₂ : List ℕ) where
    -- the number of a refusal is not 0
    no_refusal : (x : Refusal) → r₁ ≡ answer_word (card_of x) → r₁ % 256 ≡ 0 → ⊥
    no_refusal x q e = refusal_not_done x (sym (number_in (card_of x) (number_small x)) ∙ ap (λ (n : ℕ). n % 256) (sym q) ∙ e)

    record Agree : Type 0 where
      answer : r₁ ≡ r₂
      tally : w₁ ≡ w₂
      events : told₁ ≡ told₂
      done : r₁ % 256 ≡ 0 → Renamed (tally_in w).settings (tally_in w₁).files_kept u₁ u₂

    agree_carried : CarriedOn unit part w t told r₁ w₁ u₁ told₁ → CarriedOn unit part w t told r₂ w₂ u₂ told₂ → Agree
    agree_carried f g =
        let z = (carry_on_one_answer (tally_in w) t told f.carried g.carried u₁ u₂ told₁ told₂ unit part f.carries g.carries).same in
        record {
          answer = f.answer ∙ ap (λ (a : Result ℕ Refusal). answer_word (answer_card a)) z.answer ∙ sym g.answer;
          tally = f.tally ∙ (λ i. carried_words (z.answer i) (z.tally i) w) ∙ sym g.tally;
          events = z.events;
          done = go f.carried.answer refl z.needed;
        }
      where
        go : (y : Result ℕ Refusal) → f.carried.answer ≡ y → Left (tally_in w).settings f.carried.tally.files_kept u₁ u₂ y → r₁ % 256 ≡ 0
            → Renamed (tally_in w).settings (tally_in w₁).files_kept u₁ u₂
        go (Err x) q h e = absurd (no_refusal x (f.answer ∙ ap (λ (a : Result ℕ Refusal). answer_word (answer_card a)) q) e)
        go (Ok k) q h e =
            let same : tally_in w₁ ≡ f.carried.tally = ap tally_in (f.tally ∙ ap (λ (a : Result ℕ Refusal). carried_words a f.carried.tally w) q) ∙ tally_over f.carried.tally w in
            subst (λ (a : Tally). Renamed (tally_in w).settings a.files_kept u₁ u₂) (sym same) h

    agree : (x : Result ⊤ Refusal) → WordsSettle unit part w t told r₁ w₁ u₁ told₁ x → WordsSettle unit part w t told r₂ w₂ u₂ told₂ x → Agree
    agree (Ok tt) f g = agree_carried f g
    agree (Err x) f g =
        record { answer = f.answer ∙ sym g.answer; tally = f.tally ∙ sym g.tally; events = f.untold ∙ sym g.untold; done = λ e. absurd (no_refusal x f.answer e) }

    pub carry_one : CarriedWords unit part w t told r₁ w₁ u₁ told₁ → CarriedWords unit part w t told r₂ w₂ u₂ told₂ → AlikeWords w r₁ r₂ w₁ w₂ u₁ u₂ told₁ told₂
    carry_one f g =
        let z = agree (worded unit w) f.judged g.judged in
        record {
          answer = z.answer;
          tally = z.tally;
          events = z.events;
          refused =
              λ n. (carry_still unit part w t told r₁ w₁ u₁ told₁ n f).1
              ∙ sym (carry_still unit part w t told r₂ w₂ u₂ told₂ (λ e. n (ap (λ (k : ℕ). k % 256) z.answer ∙ e)) g).1;
          done = z.done;
          past = (carry_beyond r₁ w₁ u₁ told₁ f).0 ∙ sym (carry_beyond r₂ w₂ u₂ told₂ g).0;
        }

-- `snailstamp_read_file`
pub read_file_one : (trace w f s d : List ℕ) (r₁ r₂ : ℕ) (w₁ w₂ f₁ f₂ s₁ s₂ d₁ d₂ : List ℕ) → ReadFileWords trace w f s d r₁ w₁ f₁ s₁ d₁ → ReadFileWords trace w f s d r₂ w₂ f₂ s₂ d₂
    → (r₁ ≡ r₂) × (w₁ ≡ w₂) × (f₁ ≡ f₂) × (s₁ ≡ s₂) × (d₁ ≡ d₂)
read_file_one trace w f s d r₁ r₂ w₁ w₂ f₁ f₂ s₁ s₂ d₁ d₂ p q =
    let l = p.lists in
    let m = q.lists in
    (p.answer ∙ sym q.answer, p.settings ∙ sym q.settings, l.in_files ∙ sym m.in_files, l.in_sizes ∙ sym m.in_sizes, l.in_costs ∙ sym m.in_costs)

-- `snailstamp_read_part`
pub read_part_one : (c : ℕ) (part f s d : List ℕ) (r₁ r₂ : ℕ) (f₁ f₂ s₁ s₂ d₁ d₂ : List ℕ) → ReadPartWords c part f s d r₁ f₁ s₁ d₁ → ReadPartWords c part f s d r₂ f₂ s₂ d₂
    → (r₁ ≡ r₂) × (f₁ ≡ f₂) × (s₁ ≡ s₂) × (d₁ ≡ d₂)
read_part_one c part f s d r₁ r₂ f₁ f₂ s₁ s₂ d₁ d₂ p q =
    (p.answer ∙ sym q.answer, p.lists.in_files ∙ sym q.lists.in_files, p.lists.in_sizes ∙ sym q.lists.in_sizes, p.lists.in_costs ∙ sym q.lists.in_costs)

wrote_one : (p : Put) (o : List ℕ) (r₁ r₂ : ℕ) (o₁ o₂ : List ℕ) → WroteWords p o r₁ o₁ → WroteWords p o r₂ o₂ → (r₁ ≡ r₂) × (o₁ ≡ o₂)
wrote_one p o r₁ r₂ o₁ o₂ h k = (h.answer ∙ sym k.answer, h.buffer ∙ sym k.buffer)

-- `snailstamp_write_file`
pub write_file_one : (st : Settings) (f s d o : List ℕ) (r₁ r₂ : ℕ) (o₁ o₂ : List ℕ) → WroteFileWords st f s d o r₁ o₁ → WroteFileWords st f s d o r₂ o₂ → (r₁ ≡ r₂) × (o₁ ≡ o₂)
write_file_one st f s d o r₁ r₂ o₁ o₂ h k = wrote_one _ o r₁ r₂ o₁ o₂ h k

-- `snailstamp_write_part`
pub write_part_one : (c : ℕ) (f s d o : List ℕ) (r₁ r₂ : ℕ) (o₁ o₂ : List ℕ) → WrotePartWords c f s d o r₁ o₁ → WrotePartWords c f s d o r₂ o₂ → (r₁ ≡ r₂) × (o₁ ≡ o₂)
write_part_one c f s d o r₁ r₂ o₁ o₂ h k = wrote_one _ o r₁ r₂ o₁ o₂ h k

-- `snailstamp_squid_file`
pub squid_file_one : (st : Settings) (log o : List ℕ) (r₁ r₂ : ℕ) (o₁ o₂ : List ℕ) → SquidFileWords st log o r₁ o₁ → SquidFileWords st log o r₂ o₂ → (r₁ ≡ r₂) × (o₁ ≡ o₂)
squid_file_one st log o r₁ r₂ o₁ o₂ h k = wrote_one _ o r₁ r₂ o₁ o₂ h k

-- `snailstamp_squid_part`
pub squid_part_one : (c : ℕ) (log o : List ℕ) (r₁ r₂ : ℕ) (o₁ o₂ : List ℕ) → SquidPartWords c log o r₁ o₁ → SquidPartWords c log o r₂ o₂ → (r₁ ≡ r₂) × (o₁ ≡ o₂)
squid_part_one c log o r₁ r₂ o₁ o₂ h k = wrote_one _ o r₁ r₂ o₁ o₂ h k

-- `snailstamp_sheet`
pub sheet_one : (trace o : List ℕ) (r₁ r₂ : ℕ) (o₁ o₂ : List ℕ) → SheetWords trace o r₁ o₁ → SheetWords trace o r₂ o₂ → (r₁ ≡ r₂) × (o₁ ≡ o₂)
sheet_one trace o r₁ r₂ o₁ o₂ h k = (h.answer ∙ sym k.answer, h.buffer ∙ sym k.buffer)

-- `snailstamp_ratios`
due_one : (w : List ℕ) (x y : RatioCard) (b : Bool) → RatesWords w x b → RatesWords w y b → x ≡ y
due_one w x y false p q = p ∙ sym q
due_one w x y true p q = rates_one (tally_in w) x y p q

pub ratios_one : (w : List ℕ) (l : List Float) (r₁ r₂ : ℕ) (l₁ l₂ : List Float) → RatioWords w l r₁ l₁ → RatioWords w l r₂ l₂ → (r₁ ≡ r₂) × (l₁ ≡ l₂)
ratios_one w l r₁ r₂ l₁ l₂ f g =
    let e = due_one w f.due g.due (enough w) f.rates g.rates in
    (f.put.answer ∙ ap (λ (x : RatioCard). answer_word (fitted l x).card) e ∙ sym g.put.answer, f.put.list ∙ ap (λ (x : RatioCard). over (fitted l x).doubles l) e ∙ sym g.put.list)
