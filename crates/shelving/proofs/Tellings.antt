-- Writing the evictions: one turn, and the whole. Assumes nothing.
use mathlib.Core.Path.{◌≡◌, refl, sym, ap, ◌∙◌}
use mathlib.Core.List.{List, ◌∷◌, map}
use Prim.Native.Nat.{ℕ, zero, suc, ◌+◌, ◌-◌, ◌≤◌, ◌<◌}
use native.Mathlib.Omega.{arith}
use native.Mathlib.Numerals.{add-one}
use lib.ListN.{length, get_or, set, length-set}
use lib.Seq.{sets}
use Rattle.method.specs.Events.{event, evict}
use Rattle.tables.specs.Tables.{Tables}
use Rattle.shelving.specs.Telling.{evictions, Tellable, Told}
use Rattle.shelving.specs.Evicting.{behind}

-- what is still to be told makes of the events what all of it makes of those at entry
pub record Telling (n m : ℕ) (file queue events₀ events : List ℕ) (at i e : ℕ) : Type 0 where
  pub asks : Tellable i m file queue events e
  pub written : sets events e (evictions file queue i (i - m)) ≡ sets events₀ at (evictions file queue n (n - m))
  pub long : length events ≡ length events₀

pub telling_more : (n m : ℕ) (file queue events₀ events : List ℕ) (at i e v : ℕ) → Telling n m file queue events₀ events at i e → m < i → v ≡ event 5 (get_or file (get_or queue (i - 1) 0) 0)
    → Telling n m file queue events₀ (set events e v) at (i - 1) (e + 1)
unfolding evictions
telling_more n m file queue events₀ events at i e v h room is-v =
    let k : i - m ≡ suc (i - 1 - m) = omega arith in
    record {
      asks =
          record {
            part = omega arith;
            long = omega (arith, h.asks.long);
            filed = λ j a b. h.asks.filed j a (omega arith);
            known = λ j a b. h.asks.known j a (omega arith);
            room = simp length-set (omega (arith, h.asks.room));
          };
      written =
          ap (λ (x : ℕ). sets (set events e x) (e + 1) (evictions file queue (i - 1) (i - 1 - m))) is-v
          ∙ ap (λ (j : ℕ). sets (set events e (event 5 (get_or file (get_or queue (i - 1) 0) 0))) j (evictions file queue (i - 1) (i - 1 - m))) (add-one e)
          ∙ ap (λ (j : ℕ). sets events e (evictions file queue i j)) (sym k) ∙ h.written;
      long = length-set events e v ∙ h.long;
    }

pub telling_end : (n m : ℕ) (file queue events₀ events : List ℕ) (at i e : ℕ) → Telling n m file queue events₀ events at i e → i ≤ m → Told n m file queue events₀ at events
unfolding evictions
telling_end n m file queue events₀ events at i e h end =
    let k : 0 ≡ i - m = omega arith in
    record { written = ap (λ (j : ℕ). sets events e (evictions file queue i j)) k ∙ h.written }

-- the evictions told are those of the files behind the queue
pub evictions_behind : (t : Tables) (n k : ℕ) → evictions t.file t.queue n k ≡ map evict (behind t n k)
unfolding evictions behind
evictions_behind t n zero = refl
evictions_behind t n (suc k) = ap (λ (es : List ℕ). event 5 (get_or t.file (get_or t.queue (n - 1) 0) 0) ∷ es) (evictions_behind t (n - 1) k)
