-- Bytes that were read, taken apart number by number: a request and what comes after it, the five settings. Assumes nothing.
use Prim.Native.Nat.{ℕ, ◌%◌}
use mathlib.Core.Path.{◌≡◌, refl, sym, subst, ◌∙◌}
use mathlib.Core.List.{List, [], ◌∷◌}
use mathlib.Core.Bool.{Bool, true, false}
use native.Mathlib.Omega.{arith}
use borrow.Author.Tests.{ltb-true, leb-true}
use lib.ListN.{drop}
use Rattle.amounts.specs.Limits.{pick, catalogue_most, size_most, cost_most, is_unit, is_policy, is_capacity, is_places, is_catalogue, is_size, is_cost}
use Rattle.amounts.specs.Settings.{in_range}
use Rattle.amounts.specs.Requests.{Request}
use Rattle.amounts.specs.declared.settings.Settings.{Settings}
use Rattle.amounts.proofs.Tests.{one_to_lem}
use Rattle.card.specs.declared.Refusal.{Refusal}
use Rattle.card.specs.declared.Refusal.TheVariants.{Range}
use Rattle.trace.specs.Number.{Num, num, bad, decode}
use Rattle.trace.specs.Fields.{val, off, offset, judged, field, on_val, is_file}
use Rattle.trace.specs.Reading.{Read, good, stop, push, read_of, Opened, opened, shut, setting, settings_of}
use Rattle.trace.specs.Steps.{Numbered, NumberAt, Requested, RequestAt}
use Rattle.trace.specs.declared.number.Number.{Number}
use Rattle.trace.proofs.Enough.{read_nil, read_cons, After, after_then, decode_after}

-- a field after which the read went on to r
record Got {A : Type 0} (inside : ℕ → Bool) (s : List ℕ) (k : ℕ → List ℕ → A) (r : A) : Type 0 where
  value : ℕ
  rest : List ℕ
  number : decode s ≡ num value rest
  ranged : inside value ≡ true
  goes_on : k value rest ≡ r

module _ {A : Type 0} (deny : Refusal → A) (r : A) (never : (x : Refusal) → deny x ≡ r → ⊥) where
  got : (n : ℕ) (inside : ℕ → Bool) (out : ℕ → Refusal) (s : List ℕ) (k : ℕ → List ℕ → A) → on_val deny (field n inside out s) k ≡ r → Got inside s k r
  got n inside out s k e = go (decode s) refl e
    where
      ranged : (v : ℕ) (rest : List ℕ) (t : Bool) → inside v ≡ t → decode s ≡ num v rest → on_val deny (pick t (val v rest) (off (out (offset n s)))) k ≡ r → Got inside s k r
      ranged v rest true h d e = record { value = v; rest = rest; number = d; ranged = h; goes_on = e }
      ranged v rest false h d e = absurd (never (out (offset n s)) e)

      go : (x : Num) → decode s ≡ x → on_val deny (judged n inside out s x) k ≡ r → Got inside s k r
      go (num v rest) d e = ranged v rest (inside v) refl d e
      go bad d e = absurd (never _ e)

-- the first request of l, and its bytes
pub record Some (n c : ℕ) (s : List ℕ) (l : List Request) : Type 0 where
  pub q : Request
  pub after : List Request
  pub split : l ≡ q ∷ after
  pub s₁ : List ℕ
  pub s₂ : List ℕ
  pub s₃ : List ℕ
  pub file : decode s ≡ num q.file s₁
  pub size : decode s₁ ≡ num q.size s₂
  pub cost : decode s₂ ≡ num q.cost s₃
  pub file_in : is_file c q.file ≡ true
  pub size_in : is_size q.size ≡ true
  pub cost_in : is_cost q.cost ≡ true
  pub rest : read_of n c s₃ ≡ good after

pushed : (q : Request) (x : Read) (l : List Request) → push q x ≡ good l → (m : List Request) × ((l ≡ q ∷ m) × (x ≡ good m))
pushed q (good m) l e = (m, (cc, refl))
pushed q (stop r) l e = let z : ◌≡◌ {A = ℕ} 0 1 = cc in absurd (omega arith)

good_not_stop : (l : List Request) (x : Refusal) → stop x ≡ good l → ⊥
good_not_stop l x e = let z : ◌≡◌ {A = ℕ} 0 1 = cc in omega arith

pub some : (n c b : ℕ) (t : List ℕ) (l : List Request) → read_of n c (b ∷ t) ≡ good l → Some n c (b ∷ t) l
some n c b t l e =
    let a = got stop (good l) (good_not_stop l) n (is_file c) Range (b ∷ t) _ (sym (read_cons n c b t) ∙ e) in
    let z = got stop (good l) (good_not_stop l) n is_size Range a.rest _ a.goes_on in
    let d = got stop (good l) (good_not_stop l) n is_cost Range z.rest _ z.goes_on in
    let p = pushed _ _ l d.goes_on in
    record {
      q = record { file = a.value; size = z.value; cost = d.value };
      after = p.0;
      split = p.1.0;
      s₁ = a.rest;
      s₂ = z.rest;
      s₃ = d.rest;
      file = a.number;
      size = z.number;
      cost = d.number;
      file_in = a.ranged;
      size_in = z.ranged;
      cost_in = d.ranged;
      rest = p.1.1;
    }

-- bytes spell one number, with one rest
one_value : {x : Num} {v w : ℕ} {r t : List ℕ} → x ≡ num v r → x ≡ num w t → w ≡ v
one_value e f = cc

one_rest : {x : Num} {v w : ℕ} {r t : List ℕ} → x ≡ num v r → x ≡ num w t → t ≡ r
one_rest e f = cc

-- the bytes of the first request at a place
pub first_at : (part : List ℕ) (at n c : ℕ) (l : List Request) (q : Request) → read_of n c (drop at part) ≡ good (q ∷ l) → Some n c (drop at part) (q ∷ l)
first_at part at n c l q e = go (drop at part) e
  where
    go : (s : List ℕ) → read_of n c s ≡ good (q ∷ l) → Some n c s (q ∷ l)
    go [] e = let z : ◌≡◌ {A = ℕ} 0 1 = cc (read_nil n c) in absurd (omega arith)
    go (b ∷ t) e = some n c b t (q ∷ l) e

-- where there is a request, its three numbers are there
module _ (part : List ℕ) (at : ℕ) (there : Requested part at) where
  p : Some there.n there.catalogue (drop at part) (there.q ∷ there.after)
  p = first_at part at there.n there.catalogue there.after there.q there.reads

  pub file_there : Numbered part at
  file_there = record { value = p.q.file; rest = p.s₁; spelt = p.file }

  module _ (a : Number) (ha : NumberAt part at a) where
    pub size_there : Numbered part a.next
    size_there = record { value = p.q.size; rest = p.s₂; spelt = rw (one_rest p.file ha.spelt) p.size }

    pub cost_there : (z : Number) → NumberAt part a.next z → Numbered part z.next
    unfolding size_there
    cost_there z hz = record { value = p.q.cost; rest = p.s₃; spelt = rw (one_rest size_there.spelt hz.spelt) p.cost }

-- three numbers make a request
pub three : (part : List ℕ) (at : ℕ) (a z d : Number) → NumberAt part at a → NumberAt part a.next z → NumberAt part z.next d
    → RequestAt part at (record { request = record { file = a.value % 65536; size = z.value % 4294967296; cost = d.value % 65536 }; next = d.next })
three part at a z d ha hz hd = record {
  first = λ n c q l hc e.
      let p = first_at part at n c l q e in
      let eq : p.q ≡ q = cc p.split in
      let el : p.after ≡ l = cc p.split in
      let size-at : decode (drop a.next part) ≡ num p.q.size p.s₂ = rw (one_rest p.file ha.spelt) p.size in
      let cost-at : decode (drop z.next part) ≡ num p.q.cost p.s₃ = rw (one_rest size-at hz.spelt) p.cost in
      record {
        file = rw (← eq, one_value p.file ha.spelt) (omega (arith, ltb-true p.q.file c p.file_in, one_to_lem catalogue_most c hc));
        size = rw (← eq, one_value size-at hz.spelt) (omega (arith, one_to_lem size_most p.q.size p.size_in));
        cost = rw (← eq, one_value cost-at hd.spelt) (omega (arith, leb-true p.q.cost cost_most p.cost_in));
        inside = hd.inside;
        rest = rw (← el, one_rest cost-at hd.spelt) p.rest;
      };
}

-- the settings and their bytes
pub record Five (s : List ℕ) (st : Settings) (rest : List ℕ) : Type 0 where
  pub s₁ : List ℕ
  pub s₂ : List ℕ
  pub s₃ : List ℕ
  pub s₄ : List ℕ
  pub unit : decode s ≡ num st.unit.0 s₁
  pub policy : decode s₁ ≡ num st.policy.0 s₂
  pub capacity : decode s₂ ≡ num st.capacity.0 s₃
  pub places : decode s₃ ≡ num st.places.0 s₄
  pub catalogue : decode s₄ ≡ num st.catalogue.0 rest
  pub in_range_lem : in_range st ≡ true
  pub catalogue_in : is_catalogue st.catalogue.0 ≡ true

-- the bytes after the settings are the last of them
pub five_after : {s : List ℕ} {st : Settings} {rest : List ℕ} → Five s st rest → After s rest
five_after p = after_then (decode_after p.unit) (after_then (decode_after p.policy) (after_then (decode_after p.capacity) (after_then (decode_after p.places) (decode_after p.catalogue))))

opened_not_shut : (st : Settings) (rest : List ℕ) (x : Refusal) → shut x ≡ opened st rest → ⊥
opened_not_shut st rest x e = let z : ◌≡◌ {A = ℕ} 0 1 = cc in omega arith

pub five : (n : ℕ) (s : List ℕ) (st : Settings) (rest : List ℕ) → settings_of n s ≡ opened st rest → Five s st rest
unfolding settings_of in_range
five n s st rest e =
    let u = got shut (opened st rest) (opened_not_shut st rest) n is_unit setting s _ e in
    let p = got shut (opened st rest) (opened_not_shut st rest) n is_policy setting u.rest _ u.goes_on in
    let c = got shut (opened st rest) (opened_not_shut st rest) n is_capacity setting p.rest _ p.goes_on in
    let k = got shut (opened st rest) (opened_not_shut st rest) n is_places setting c.rest _ c.goes_on in
    let g = got shut (opened st rest) (opened_not_shut st rest) n is_catalogue setting k.rest _ k.goes_on in
    made u p c k g (cc g.goes_on) (cc g.goes_on)
  where
    made : {k₁ k₂ k₃ k₄ k₅ : ℕ → List ℕ → Opened} (u : Got is_unit s k₁ (opened st rest)) (p : Got is_policy u.rest k₂ (opened st rest))
        (c : Got is_capacity p.rest k₃ (opened st rest)) (k : Got is_places c.rest k₄ (opened st rest)) (g : Got is_catalogue k.rest k₅ (opened st rest))
        → record { unit = record { 0 = u.value }; policy = record { 0 = p.value }; capacity = record { 0 = c.value }; places = record { 0 = k.value }; catalogue = record { 0 = g.value } } ≡ st → g.rest ≡ rest → Five s st rest
    made u p c k g es er =
        subst (λ (x : Settings). Five s x rest) es
        (record {
          s₁ = u.rest;
          s₂ = p.rest;
          s₃ = c.rest;
          s₄ = k.rest;
          unit = u.number;
          policy = p.number;
          capacity = c.number;
          places = k.number;
          catalogue = rw (← er) g.number;
          in_range_lem = simp (u.ranged, p.ranged, c.ranged, k.ranged, g.ranged);
          catalogue_in = g.ranged;
        })
