-- What is left after a number are the last of the bytes, so the bound on the number of requests never counts: reading requests to the end, without it. Assumes nothing.
use Prim.Native.Nat.{ℕ, zero, suc, ◌%◌, ◌≤◌, ◌<◌}
use mathlib.Core.Path.{◌≡◌, refl, ap, sym, subst, ◌∙◌}
use mathlib.Core.List.{List, [], ◌∷◌, ◌++◌, append_assoc}
use mathlib.Core.Bool.{Bool, true, false}
use native.Mathlib.Omega.{arith}
use lib.ListN.{length, drop, length-append}
use lib.Seq.{drop-append_seam}
use lib.Dec.{ltb, eqb}
use Rattle.amounts.specs.Limits.{pick, is_size, is_cost}
use Rattle.card.specs.declared.Refusal.{Refusal}
use Rattle.card.specs.declared.Refusal.TheVariants.{Range}
use Rattle.trace.specs.Number.{Num, num, bad, before, closing, groups, decode}
use Rattle.trace.specs.Fields.{Field, val, off, offset, judged, field, on_val, is_file}
use Rattle.trace.specs.Reading.{good, stop, push, requests, read_of}

-- what is left after a number is the end of the bytes
pub record After (s rest : List ℕ) : Type 0 where
  pub front : List ℕ
  pub same : s ≡ front ++ rest
  pub some : 0 < length front

pub after_shorter : {s rest : List ℕ} → After s rest → length rest < length s
after_shorter {rest = rest} p = omega (arith, p.some, ap length p.same, length-append p.front rest)

pub after_then : {s t u : List ℕ} → After s t → After t u → After s u
after_then {u = u} p q =
    record {
      front = p.front ++ q.front;
      same = p.same ∙ ap (λ (l : List ℕ). p.front ++ l) q.same ∙ sym (append_assoc p.front q.front u);
      some = omega (arith, p.some, length-append p.front q.front);
    }

-- they begin as far from the front as they are shorter
pub after_drop : {s rest : List ℕ} → After s rest → drop (offset (length s) rest) s ≡ rest
after_drop {s} {rest} p =
    let n : offset (length s) rest ≡ length p.front = omega (arith, ap length p.same, length-append p.front rest) in
    ap (λ (k : ℕ). drop k s) n ∙ ap (drop (length p.front)) p.same ∙ drop-append_seam p.front rest

-- the bytes after the number x, at the front of s
Ends : List ℕ → Num → Type 0
Ends s x = (v : ℕ) (rest : List ℕ) → x ≡ num v rest → After s rest

one_after : (b : ℕ) {s rest : List ℕ} → s ≡ rest → After (b ∷ s) rest
one_after b e = record { front = b ∷ []; same = ap (λ (t : List ℕ). b ∷ t) e; some = omega arith }

closing_ends : (first : Bool) (b : ℕ) (s : List ℕ) → Ends (b ∷ s) (closing first b s)
unfolding Ends
closing_ends true b s v rest e = one_after b (cc)
closing_ends false b s v rest e = go (eqb b 0) e
  where
    go : (t : Bool) → pick t bad (num (b % 128) s) ≡ num v rest → After (b ∷ s) rest
    go true e = let z : ◌≡◌ {A = ℕ} 0 1 = cc in absurd (omega arith)
    go false e = one_after b (cc)

before_ends : (b : ℕ) (s : List ℕ) (x : Num) → Ends s x → Ends (b ∷ s) (before b x)
unfolding Ends
before_ends b s (num w t) h v rest e = let r : t ≡ rest = cc in subst (After (b ∷ s)) r (after_then (one_after b refl) (h w t refl))
before_ends b s bad h v rest e = let z : ◌≡◌ {A = ℕ} 0 1 = cc in absurd (omega arith)

groups_ends : (k : ℕ) (first : Bool) (s : List ℕ) → Ends s (groups k first s)
unfolding Ends
groups_ends zero first s v rest e = let z : ◌≡◌ {A = ℕ} 0 1 = cc in absurd (omega arith)
groups_ends (suc k) first [] v rest e = let z : ◌≡◌ {A = ℕ} 0 1 = cc in absurd (omega arith)
groups_ends (suc k) first (b ∷ s) v rest e = go (ltb b 128) e (groups_ends k false s)
  where
    go : (t : Bool) → pick t (closing first b s) (before b (groups k false s)) ≡ num v rest → Ends s (groups k false s) → After (b ∷ s) rest
    go true e ih = closing_ends first b s v rest e
    go false e ih = before_ends b s (groups k false s) ih v rest e

pub decode_after : {s : List ℕ} {v : ℕ} {rest : List ℕ} → decode s ≡ num v rest → After s rest
unfolding Ends
decode_after {s} {v} {rest} e = groups_ends 6 true s v rest e

field_shorter : (n : ℕ) (inside : ℕ → Bool) (out : ℕ → Refusal) (s : List ℕ) (v : ℕ) (rest : List ℕ) → field n inside out s ≡ val v rest → length rest < length s
field_shorter n inside out s v rest e = go (decode s) refl e
  where
    ranged : (w : ℕ) (t : List ℕ) (r : Bool) → decode s ≡ num w t → pick r (val w t) (off (out (offset n s))) ≡ val v rest → length rest < length s
    ranged w t true d e = let r : t ≡ rest = cc in after_shorter (subst (After s) r (decode_after d))
    ranged w t false d e = let z : ◌≡◌ {A = ℕ} 0 1 = cc in absurd (omega arith)

    go : (x : Num) → decode s ≡ x → judged n inside out s x ≡ val v rest → length rest < length s
    go (num w t) d e = ranged w t (inside w) d e
    go bad d e = let z : ◌≡◌ {A = ℕ} 0 1 = cc in absurd (omega arith)

on_val_same : {A : Type 0} (deny : Refusal → A) (x : Field) (k k' : ℕ → List ℕ → A) → ((v : ℕ) (rest : List ℕ) → x ≡ val v rest → k v rest ≡ k' v rest) → on_val deny x k ≡ on_val deny x k'
on_val_same deny (val v rest) k k' h = h v rest refl
on_val_same deny (off a) k k' h = refl

module _ (n c : ℕ) where
  enough : (k m : ℕ) (s : List ℕ) → length s ≤ k → length s ≤ m → requests n c k s ≡ requests n c m s
  enough zero zero [] h h' = refl
  enough zero (suc m) [] h h' = refl
  enough (suc k) zero [] h h' = refl
  enough (suc k) (suc m) [] h h' = refl
  enough zero m (b ∷ t) h h' = absurd (omega arith)
  enough (suc k) zero (b ∷ t) h h' = absurd (omega arith)
  enough (suc k) (suc m) (b ∷ t) h h' = go (enough k m)
    where
      go : ((s : List ℕ) → length s ≤ k → length s ≤ m → requests n c k s ≡ requests n c m s) → requests n c (suc k) (b ∷ t) ≡ requests n c (suc m) (b ∷ t)
      go ih =
          on_val_same stop (field n (is_file c) Range (b ∷ t)) _ _ (λ file s₁ e₁.
          on_val_same stop (field n is_size Range s₁) _ _ (λ size s₂ e₂.
          on_val_same stop (field n is_cost Range s₂) _ _ (λ cost s₃ e₃.
          let l : length s₃ < suc (length t) = omega (arith, field_shorter n (is_file c) Range (b ∷ t) file s₁ e₁, field_shorter n is_size Range s₁ size s₂ e₂, field_shorter n is_cost Range s₂ cost s₃ e₃) in
          ap (push (record { file = file; size = size; cost = cost })) (ih s₃ (omega arith) (omega arith)))))

  pub read_nil : read_of n c [] ≡ good []
  unfolding read_of
  read_nil = refl

  -- a request, and what comes after it
  pub read_cons : (b : ℕ) (t : List ℕ) → read_of n c (b ∷ t)
      ≡ on_val stop (field n (is_file c) Range (b ∷ t))
      (λ file s₁. on_val stop (field n is_size Range s₁)
      (λ size s₂. on_val stop (field n is_cost Range s₂)
      (λ cost s₃. push (record { file = file; size = size; cost = cost }) (read_of n c s₃))))
  unfolding read_of
  read_cons b t =
      on_val_same stop (field n (is_file c) Range (b ∷ t)) _ _ (λ file s₁ e₁.
      on_val_same stop (field n is_size Range s₁) _ _ (λ size s₂ e₂.
      on_val_same stop (field n is_cost Range s₂) _ _ (λ cost s₃ e₃.
      let l : length s₃ < suc (length t) = omega (arith, field_shorter n (is_file c) Range (b ∷ t) file s₁ e₁, field_shorter n is_size Range s₁ size s₂ e₂, field_shorter n is_cost Range s₂ cost s₃ e₃) in
      ap (push (record { file = file; size = size; cost = cost })) (enough (length t) (length s₃) s₃ (omega arith) (omega arith)))))
