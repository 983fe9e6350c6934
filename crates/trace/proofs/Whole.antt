-- Reading by its steps, forwards: numbers in range at the front of some bytes are read, whatever comes after them. Assumes nothing.
use Prim.Native.Nat.{ℕ, zero, suc, ◌+◌, ◌*◌, ◌%◌, ◌≤◌}
use mathlib.Core.Path.{◌≡◌, refl, ◌∙◌}
use mathlib.Core.List.{List, [], ◌∷◌, ◌++◌}
use mathlib.Core.Bool.{Bool, true, false}
use native.Mathlib.Omega.{arith}
use borrow.Author.Tests.{lt-ltb, ltb-true, leb-true}
use lib.ListN.{length}
use lib.Seq.{get_or-append-add}
use lib.Dec.{ltb, eqb}
use Rattle.amounts.specs.Limits.{pick, catalogue_most, size_most, cost_most, is_unit, is_policy, is_capacity, is_places, is_catalogue, is_size, is_cost}
use Rattle.amounts.specs.Requests.{Request, Ranged}
use Rattle.amounts.specs.declared.settings.Settings.{Settings}
use Rattle.amounts.proofs.Tests.{one_to_lem}
use Rattle.card.specs.declared.Refusal.{Refusal}
use Rattle.card.specs.declared.Refusal.TheVariants.{Range}
use Rattle.trace.specs.Number.{number_most, Num, num, bad, before, closing, groups, decode, AreBytes}
use Rattle.trace.specs.Fields.{field, on_val, is_file}
use Rattle.trace.specs.Reading.{stop, push, read_of, opened, shut, setting, settings_of}
use Rattle.trace.proofs.Enough.{read_cons}
use Rattle.trace.proofs.Taking.{Some}
use Rattle.trace.proofs.Ranges.{Settled}

-- a field that is good goes on
on_val_lem : {A : Type 0} (deny : Refusal → A) (n : ℕ) (inside : ℕ → Bool) (out : ℕ → Refusal) (s : List ℕ) (k : ℕ → List ℕ → A) (v : ℕ) (rest : List ℕ)
    → decode s ≡ num v rest → inside v ≡ true → on_val deny (field n inside out s) k ≡ k v rest
on_val_lem deny n inside out s k v rest d t = rw (d, t)

-- a request that is good, and what comes after it
pub read_step : (n c : ℕ) (s s₁ s₂ s₃ : List ℕ) (q : Request) → Ranged c q → decode s ≡ num q.file s₁ → decode s₁ ≡ num q.size s₂ → decode s₂ ≡ num q.cost s₃
    → read_of n c s ≡ push q (read_of n c s₃)
read_step n c [] s₁ s₂ s₃ q r d₁ d₂ d₃ = let z : ◌≡◌ {A = ℕ} 0 1 = cc in absurd (omega arith)
read_step n c (b ∷ t) s₁ s₂ s₃ q r d₁ d₂ d₃ =
    read_cons n c b t
    ∙ on_val_lem stop n (is_file c) Range (b ∷ t) _ q.file s₁ d₁ (lt-ltb q.file c r.file)
    ∙ on_val_lem stop n is_size Range s₁ _ q.size s₂ d₂ r.size
    ∙ on_val_lem stop n is_cost Range s₂ _ q.cost s₃ d₃ r.cost

-- settings that are good
pub settings_step : (n : ℕ) (s s₁ s₂ s₃ s₄ rest : List ℕ) (st : Settings) → Settled st
    → decode s ≡ num st.unit.0 s₁ → decode s₁ ≡ num st.policy.0 s₂ → decode s₂ ≡ num st.capacity.0 s₃ → decode s₃ ≡ num st.places.0 s₄ → decode s₄ ≡ num st.catalogue.0 rest
    → settings_of n s ≡ opened st rest
unfolding settings_of
settings_step n s s₁ s₂ s₃ s₄ rest st r d₁ d₂ d₃ d₄ d₅ =
    on_val_lem shut n is_unit setting s _ st.unit.0 s₁ d₁ r.unit
    ∙ on_val_lem shut n is_policy setting s₁ _ st.policy.0 s₂ d₂ r.policy
    ∙ on_val_lem shut n is_capacity setting s₂ _ st.capacity.0 s₃ d₃ r.capacity
    ∙ on_val_lem shut n is_places setting s₃ _ st.places.0 s₄ d₄ r.places
    ∙ on_val_lem shut n is_catalogue setting s₄ _ st.catalogue.0 rest d₅ r.catalogue

-- a request that was read is in range
pub some_ranged : {n c : ℕ} {s : List ℕ} {l : List Request} (p : Some n c s l) → Ranged c p.q
some_ranged {c} p = record { file = ltb-true p.q.file c p.file_in; size = p.size_in; cost = p.cost_in }

-- the fields of a request in range are small enough for house numbers
pub record Small (q : Request) : Type 0 where
  pub file : q.file ≤ number_most
  pub size : q.size ≤ number_most
  pub cost : q.cost ≤ number_most

pub ranged_small : (c : ℕ) (q : Request) → is_catalogue c ≡ true → Ranged c q → Small q
ranged_small c q h r =
    record {
      file = omega (arith, one_to_lem catalogue_most c h, r.file);
      size = omega (arith, one_to_lem size_most q.size r.size);
      cost = omega (arith, leb-true q.cost cost_most r.cost);
    }

-- bytes after a number do not change it
closing_append : (first : Bool) (b : ℕ) (s t : List ℕ) (v : ℕ) (rest : List ℕ) → closing first b s ≡ num v rest → closing first b (s ++ t) ≡ num v (rest ++ t)
closing_append true b s t v rest e = let p : b % 128 ≡ v = cc in let r : s ≡ rest = cc in rw (p, r)
closing_append false b s t v rest e = go (eqb b 0) e
  where
    go : (z : Bool) → pick z bad (num (b % 128) s) ≡ num v rest → pick z bad (num (b % 128) (s ++ t)) ≡ num v (rest ++ t)
    go true e = let z : ◌≡◌ {A = ℕ} 0 1 = cc in absurd (omega arith)
    go false e = let p : b % 128 ≡ v = cc in let r : s ≡ rest = cc in rw (p, r)

before_append : (b : ℕ) (x y : Num) (t : List ℕ) (v : ℕ) (rest : List ℕ) → ((w : ℕ) (r : List ℕ) → x ≡ num w r → y ≡ num w (r ++ t)) → before b x ≡ num v rest → before b y ≡ num v (rest ++ t)
before_append b (num w r) y t v rest h e =
    let p : b % 128 + 128 * w ≡ v = cc in
    let q : r ≡ rest = cc in
    rw (h w r refl, p, q)
before_append b bad y t v rest h e = let z : ◌≡◌ {A = ℕ} 0 1 = cc in absurd (omega arith)

groups_append : (k : ℕ) (first : Bool) (s t : List ℕ) (v : ℕ) (rest : List ℕ) → groups k first s ≡ num v rest → groups k first (s ++ t) ≡ num v (rest ++ t)
groups_append zero first s t v rest e = let z : ◌≡◌ {A = ℕ} 0 1 = cc in absurd (omega arith)
groups_append (suc k) first [] t v rest e = let z : ◌≡◌ {A = ℕ} 0 1 = cc in absurd (omega arith)
groups_append (suc k) first (b ∷ s) t v rest e = go (ltb b 128) (λ w r. groups_append k false s t w r) e
  where
    go : (z : Bool) → ((w : ℕ) (r : List ℕ) → groups k false s ≡ num w r → groups k false (s ++ t) ≡ num w (r ++ t)) → pick z (closing first b s) (before b (groups k false s)) ≡ num v rest
        → pick z (closing first b (s ++ t)) (before b (groups k false (s ++ t))) ≡ num v (rest ++ t)
    go true ih e = closing_append first b s t v rest e
    go false ih e = before_append b (groups k false s) (groups k false (s ++ t)) t v rest ih e

pub decode_append : (s t : List ℕ) (v : ℕ) (rest : List ℕ) → decode s ≡ num v rest → decode (s ++ t) ≡ num v (rest ++ t)
decode_append s t v rest e = groups_append 6 true s t v rest e

-- what follows some bytes are bytes too
pub bytes_after : (a b : List ℕ) → AreBytes (a ++ b) → AreBytes b
unfolding AreBytes
bytes_after a b h i = rw (get_or-append-add a b i 0) at (h (length a + i))
