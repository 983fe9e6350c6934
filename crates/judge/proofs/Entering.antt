-- The pass over the queue's entries: what holds after i turns. Assumes nothing.
use mathlib.Core.Path.{◌≡◌, refl, sym, ap, ◌∙◌}
use mathlib.Core.Logic.{inl, inr, ⊎_elim}
use mathlib.Core.Bool.{Bool, false, true≢false}
use mathlib.Core.List.{List}
use Prim.Native.Nat.{ℕ, ◌+◌, ◌≤◌, ◌<◌}
use native.Mathlib.Omega.{arith}
use borrow.Author.Count.{below_more}
use lib.ListN.{length, get_or, set, length-set}
use lib.Seq.{get_or-set_same, get_or-set_other}
use Rattle.amounts.specs.Limits.{no_place}
use Rattle.amounts.specs.declared.settings.Settings.{Settings}
use Rattle.amounts.proofs.Tests.{same}
use Rattle.tables.specs.Tables.{Tables}
use Rattle.tables.specs.Sound.{Occupied, Entries, Queued}
use Rattle.tables.proofs.Counting.{times_twice}
use Rattle.judge.specs.Passes.{Indexable, Notes, Noted}

module _ (s : Settings) (n : ℕ) (t : Tables) (entry₀ : List ℕ) where
  -- the first i entries hold occupied places, each noted once, and nothing else is noted
  pub record Noting (entry : List ℕ) (i : ℕ) : Type 0 where
    pub most : i ≤ n
    pub entries : Entries s i t
    pub index : (k : ℕ) → k < i → get_or entry (get_or t.queue k 0) 0 ≡ k
    pub notes : (p : ℕ) → p < s.places.0 → Notes i t.queue entry p
    pub long : length entry ≡ length entry₀

  module _ (a : Indexable s n t entry₀) where
    module _ (entry : List ℕ) (i : ℕ) (g : Noting entry i) (h : i < n) where
      -- the place of entry i
      abbrev at : ℕ
      at = get_or t.queue i 0

      -- it is noted already
      pub noting_twice : Occupied s t at → (get_or entry at 0 ≡ no_place → ⊥) → Noted s n t entry₀ entry false
      noting_twice w ne = record { yes = λ e. absurd (true≢false (sym e)); no = λ _ q. twice q (g.notes at w.inside); long = g.long }
        where
          twice : Queued s n t → Notes i t.queue entry at → ⊥
          twice q v = ⊎_elim ne (λ x. omega (arith, q.once at w, times_twice t.queue (get_or entry at 0) i n x.0 h x.1)) v

      -- it is noted now
      module _ (w : Occupied s t at) (b : get_or entry at 0 ≡ no_place) where
        at_new : get_or (set entry at i) at 0 ≡ i
        at_new = get_or-set_same entry at i 0 (omega (arith, w.inside, a.entry_long, g.long))

        at_other : (p : ℕ) → (p ≡ at → ⊥) → get_or (set entry at i) p 0 ≡ get_or entry p 0
        at_other p ne = get_or-set_other entry at p i 0 ne

        -- an earlier entry's place is another: its index is an entry's number
        earlier : (k : ℕ) → k < i → get_or t.queue k 0 ≡ at → ⊥
        earlier k l e = omega (arith, g.index k l, ap (λ (p : ℕ). get_or entry p 0) e, b, a.few, a.most)

        here : (p : ℕ) → p ≡ at → Notes (i + 1) t.queue (set entry at i) p
        here p e = rw e (rw at_new (inr (omega arith, refl)))

        still : (p : ℕ) → (p ≡ at → ⊥) → Notes i t.queue entry p → Notes (i + 1) t.queue (set entry at i) p
        still p ne v = rw (at_other p ne) (⊎_elim (λ z. inl z) (λ x. inr (omega (arith, x.0), x.1)) v)

        pub noting_more : Noting (set entry at i) (i + 1)
        noting_more = record {
          most = omega arith;
          entries = below_more _ _ g.entries w;
          index = below_more _ _ (λ k l. at_other (get_or t.queue k 0) (earlier k l) ∙ g.index k l) at_new;
          notes = λ p l. ⊎_elim (λ e. here p e) (λ ne. still p ne (g.notes p l)) (same p at);
          long = length-set entry at i ∙ g.long;
        }

pub noted_from : {s : Settings} {n : ℕ} {t : Tables} {entry₀ entry entry' : List ℕ} {answer : Bool} → Noted s n t entry entry' answer → length entry ≡ length entry₀ → Noted s n t entry₀ entry' answer
noted_from h e = record { yes = h.yes; no = h.no; long = h.long ∙ e }
