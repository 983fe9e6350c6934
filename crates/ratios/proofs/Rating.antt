-- The answer that is due to a tally: refused first where nothing was asked, when it has both ratios, and that it is the one answer. Assumes nothing.
use mathlib.Core.Path.{◌≡◌, refl, sym, ◌∙◌}
use mathlib.Core.List.{[]}
use Rattle.std.specs.Prelude.{Err}
use mathlib.Core.Logic.{⊎_elim}
use Prim.Native.Nat.{ℕ, ◌≤◌, ◌<◌}
use native.Mathlib.Omega.{arith}
use Rattle.amounts.proofs.Tests.{same, below}
use Rattle.card.specs.Card.{refused}
use Rattle.card.specs.declared.Refusal.TheVariants.{NoRequests}
use Rattle.tables.specs.Tables.{Tables}
use Rattle.tables.specs.Sound.{Counted, Sound}
use Rattle.tables.specs.declared.tally.Tally.{Tally}
use Rattle.tables.proofs.SoundDecided.{counted_decided}
use Rattle.ratios.specs.Quotient.{exact_most}
use Rattle.ratios.specs.Ratios.{ratios_of, Rateable, RatioCard, giving, refusing, ratio_card, Rates}

some : {n : ℕ} → (n ≡ 0 → ⊥) → 1 ≤ n
some {n} ne = omega arith

-- a tally with requests, these clauses of soundness and bytes asked that a double has exactly has both ratios
pub rateable : (a : Tally) → 1 ≤ a.requests → Counted a → a.bytes_asked.0 ≤ exact_most → Rateable a
rateable a n h k =
    let b = h.counts.bytes in
    record {
      hits = record { within = omega (arith, h.counts.outcomes); some = n; exact = omega (arith, h.few) };
      bytes = record { within = b.hit_asked; some = omega (arith, b.asked_least); exact = k };
    }

-- document 02, ticket 3: 11 when there are no requests, whatever else the tally breaks
pub rates_none : (a : Tally) → a.requests ≡ 0 → Rates a (ratio_card (Err NoRequests))
rates_none a e = record { none = λ _. refl; unsound = λ n. absurd (omega arith); inexact = λ n. absurd (omega arith); rated = λ n. absurd (omega arith) }

-- ---- one answer

-- the four cases of a tally
pub data Case (a : Tally) : Type 0 where
  empty : a.requests ≡ 0 → Case a
  broken : 1 ≤ a.requests → (Counted a → ⊥) → Case a
  past : 1 ≤ a.requests → Counted a → exact_most < a.bytes_asked.0 → Case a
  whole : 1 ≤ a.requests → Counted a → a.bytes_asked.0 ≤ exact_most → Case a

pub case_of : (a : Tally) → Case a
case_of a =
    ⊎_elim (λ e. empty e) (λ ne. ⊎_elim (λ h. exact (some ne) h) (λ nc. broken (some ne) nc) (counted_decided a)) (same a.requests 0)
  where
    exact : 1 ≤ a.requests → Counted a → Case a
    exact n h = ⊎_elim (λ k. past n h k) (λ k. whole n h k) (below exact_most a.bytes_asked.0)

-- document 01, "How much each promise says": the promise admits one answer
pub rates_one : (a : Tally) (x y : RatioCard) → Rates a x → Rates a y → x ≡ y
rates_one a x y p q = go (case_of a)
  where
    go : Case a → x ≡ y
    go (empty e) = p.none e ∙ sym (q.none e)
    go (broken n nc) = p.unsound n nc ∙ sym (q.unsound n nc)
    go (past n h k) = p.inexact n h k ∙ sym (q.inexact n h k)
    go (whole n h k) = p.rated n h k ∙ sym (q.rated n h k)

-- a sound tally with a request is never refused 7: the record is given, or its bytes are past a double
module _ (a : Tally) (t : Tables) (x : RatioCard) (h : Sound a t) (n : 1 ≤ a.requests) (p : Rates a x) where
  sound_counted : Counted a
  sound_counted = record { few = h.few; counts = h.agreed.counts }

  pub sound_rated : a.bytes_asked.0 ≤ exact_most → x ≡ giving (ratios_of a)
  sound_rated k = p.rated n sound_counted k

  pub sound_inexact : exact_most < a.bytes_asked.0 → x ≡ refusing (refused 12 [])
  sound_inexact k = p.inexact n sound_counted k
