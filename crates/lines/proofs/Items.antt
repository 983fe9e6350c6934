-- A word with its number, laid piece by piece; the words of the kinds of events. Assumes nothing.
use Prim.Native.Nat.{ℕ, ◌+◌, ◌*◌, ◌/◌, ◌%◌, ◌≤◌, ◌<◌}
use mathlib.Core.Path.{◌≡◌, refl, ap, sym, subst, ◌∙◌}
use mathlib.Core.List.{List, [], ◌∷◌, ◌++◌}
use native.Mathlib.Omega.{arith}
use lib.ListN.{length, set, length-set}
use lib.Seq.{length-sets}
use Rattle.amounts.specs.Limits.{catalogue_most}
use Rattle.method.specs.Events.{event}
use Rattle.trace.specs.Stores.{Roomy, Laid}
use Rattle.trace.proofs.Laying.{roomy_front, roomy_next, laid_then}
use Rattle.lines.specs.Decimal.{decimal}
use Rattle.lines.specs.Words.{space, line_feed}
use Rattle.lines.specs.Lines.{item, kind_word, event_line}

-- what is laid leaves the list as long as it was
pub laid_long : (bs : List ℕ) (at : ℕ) (out out' : List ℕ) (r : ℕ) → Laid bs at out out' r → length out' ≡ length out
laid_long bs at out out' r p = ap length p.placed ∙ length-sets out at bs

-- the same bytes, by another name
pub laid_as : {bs bs' : List ℕ} {at : ℕ} {out out' : List ℕ} {r : ℕ} → bs ≡ bs' → Laid bs' at out out' r → Laid bs at out out' r
laid_as {bs} {bs'} {at} {out} {out'} {r} e p = subst (λ (x : List ℕ). Laid x at out out' r) (sym e) p

-- one byte laid
one : (v at : ℕ) (out : List ℕ) → Laid (v ∷ []) at out (set out at v) (at + 1)
one v at out = record { placed = refl; ends = refl }

module _ (w : List ℕ) (n end at : ℕ) (out : List ℕ) (r : Roomy (item w n end) at out) where
  -- the number and the end
  abbrev after : List ℕ
  after = decimal n ++ (end ∷ [])

  spread : Roomy (w ++ ((space ∷ []) ++ after)) at out
  unfolding item
  spread = r

  pub item_word : Roomy w at out
  item_word = roomy_front w _ at out spread

  module _ (out₁ : List ℕ) (at₁ : ℕ) (word_laid : Laid w at out out₁ at₁) where
    room₁ : Roomy ((space ∷ []) ++ after) at₁ out₁
    room₁ = roomy_next w _ at out out₁ at₁ word_laid spread

    pub item_space : at₁ < length out₁
    item_space = omega (arith, room₁.room)

    room₂ : Roomy after (at₁ + 1) (set out₁ at₁ space)
    room₂ = roomy_next (space ∷ []) after at₁ out₁ _ _ (one space at₁ out₁) room₁

    pub item_number : Roomy (decimal n) (at₁ + 1) (set out₁ at₁ space)
    item_number = roomy_front (decimal n) _ _ _ room₂

    module _ (out₂ : List ℕ) (at₂ : ℕ) (q : Laid (decimal n) (at₁ + 1) (set out₁ at₁ space) out₂ at₂) where
      pub item_end : at₂ < length out₂
      item_end = omega (arith, (roomy_next (decimal n) (end ∷ []) _ _ out₂ at₂ q room₂).room)

      pub item_laid : Laid (item w n end) at out (set out₂ at₂ end) (at₂ + 1)
      unfolding item
      item_laid =
          laid_then w ((space ∷ []) ++ after) at out out₁ at₁ word_laid _ _
          (laid_then (space ∷ []) after at₁ out₁ _ _ (one space at₁ out₁) _ _ (laid_then (decimal n) (end ∷ []) _ _ out₂ at₂ q _ _ (one end at₂ out₂)))

      pub item_inside : at₂ + 1 ≤ length out
      item_inside = omega (arith, item_end, length-set out₂ at₂ end, laid_long (item w n end) at out _ _ item_laid)

-- document 01, "Event list": kind and file are read back from kind × 32,768 + file
pub event_read : (k f : ℕ) → f < catalogue_most → event_line (event k f) ≡ item (kind_word k) f line_feed
event_read k f h =
    let d : (k * catalogue_most + f) / catalogue_most ≡ k = omega arith in
    let m : (k * catalogue_most + f) % catalogue_most ≡ f = omega arith in
    λ i. item (kind_word (d i)) (m i) line_feed
