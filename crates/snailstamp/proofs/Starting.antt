-- A fresh start in words, by the ways through it. Assumes nothing.
use mathlib.Core.Path.{◌≡◌, refl, ap, sym, ◌∙◌, subst}
use mathlib.Core.Bool.{Bool, true, false}
use mathlib.Core.List.{List, []}
use Prim.Native.Nat.{ℕ}
use native.Mathlib.Omega.{arith}
use Rattle.std.specs.Prelude.{Result, Ok, Err}
use Rattle.amounts.specs.Limits.{pick}
use Rattle.amounts.specs.Settings.{in_range}
use Rattle.amounts.specs.declared.settings.Settings.{Settings}
use Rattle.card.specs.Card.{Card, refused, card_of}
use Rattle.card.specs.declared.Refusal.{Refusal}
use Rattle.card.specs.declared.Refusal.TheVariants.{Setting, Short}
use Rattle.trace.specs.Promise.{over}
use Rattle.tables.specs.Tables.{Tables}
use Rattle.tables.specs.Tally.{fresh_tally}
use Rattle.tables.specs.Start.{words, long, start_card, start_answer, start_tables, Freshly}
use Rattle.tables.specs.declared.tally.Tally.{Tally}
use Rattle.tables.proofs.Twins.{fresh_done}
use Rattle.words.specs.Words.{word_of, answer_word}
use Rattle.snailstamp.specs.Steps.{PutStarted}
use Rattle.snailstamp.specs.Run.{enough, fresh_card, fresh_words, fresh_tables, FreshWords}

-- ---- the ways through

module _ (s : Settings) (w : List ℕ) (t : Tables) where
  pub fresh_setting : in_range s ≡ false → FreshWords s w t (answer_word (card_of Setting)) w t
  unfolding fresh_card fresh_words fresh_tables start_tables
  fresh_setting h = record { answer = rw h; tally = rw h; lent = go (enough w) }
    where
      go : (b : Bool) → t ≡ pick b (start_tables s t) t
      go true = rw h
      go false = refl

  module _ (h : in_range s ≡ true) where
    pub fresh_few : enough w ≡ false → FreshWords s w t (answer_word (card_of Short)) w t
    unfolding fresh_card fresh_words fresh_tables
    fresh_few e = record { answer = rw (h, e); tally = rw (h, e); lent = rw e }

    module _ (e : enough w ≡ true) (r : Result Tally Refusal) (u : Tables) (s₀ : Settings) (made : s₀ ≡ s) (began : Freshly s₀ t r u) where
      f : Freshly s t r u
      f = subst (λ (x : Settings). Freshly x t r u) made began

      fresh_refused : (x : Refusal) → r ≡ Err x → FreshWords s w t (answer_word (card_of x)) w u
      unfolding fresh_card fresh_words fresh_tables start_answer
      fresh_refused x q = go (long s t) refl
        where
          go : (b : Bool) → long s t ≡ b → FreshWords s w t (answer_word (card_of x)) w u
          go true l = let p = (fresh_done s t r u f h l).0 in let z : ◌≡◌ {A = ℕ} 0 1 = cc in absurd (omega arith)
          go false l = record { answer = rw (h, e, l) (ap answer_word (sym (ap start_card q) ∙ f.answer ∙ rw (h, l))); tally = rw (h, e, l); lent = rw e f.lent }

      fresh_started : (a : Tally) → r ≡ Ok a → FreshWords s w t 0 (over (words a) w) u
      unfolding fresh_card fresh_words fresh_tables start_answer answer_word word_of
      fresh_started a q = go (long s t) refl
        where
          go : (b : Bool) → long s t ≡ b → FreshWords s w t 0 (over (words a) w) u
          go true l =
              let p = (fresh_done s t r u f h l).0 in
              let same : a ≡ fresh_tally s = cc in
              record { answer = rw (h, e, l); tally = rw (h, e, l) (ap (λ (x : Tally). over (words x) w) same); lent = rw e f.lent }
          go false l =
              let p : start_card (Ok a) ≡ refused 2 [] = sym (ap start_card q) ∙ f.answer ∙ rw (h, l) in
              let z : ◌≡◌ {A = ℕ} 0 2 = ap (λ (c : Card). c.number) p in
              absurd (omega arith)

      pub fresh_put : (a : ℕ) (w' : List ℕ) → PutStarted r w a w' → FreshWords s w t a w' u
      fresh_put a w' p = go r refl p
        where
          go : (x : Result Tally Refusal) → r ≡ x → PutStarted x w a w' → FreshWords s w t a w' u
          go (Err x) q p = let z = fresh_refused x q in record { answer = p.answer ∙ z.answer; tally = p.tally ∙ z.tally; lent = z.lent }
          go (Ok x) q p = let z = fresh_started x q in record { answer = p.answer ∙ z.answer; tally = p.tally ∙ z.tally; lent = z.lent }
