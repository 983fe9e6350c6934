-- What is written reads back, what is read writes back, and only one spelling is read (document 01, "Trace bytes"). Assumes nothing.
use Prim.Native.Nat.{ℕ}
use mathlib.Core.Path.{◌≡◌, refl, ap, sym, subst, ◌∙◌}
use mathlib.Core.List.{List, [], ◌∷◌, ◌++◌, append_assoc}
use mathlib.Core.Bool.{true}
use native.Mathlib.Omega.{arith}
use lib.ListN.{length}
use Rattle.amounts.specs.Limits.{is_catalogue}
use Rattle.amounts.specs.Settings.{in_range}
use Rattle.amounts.specs.Requests.{Request, Ranged, AllRanged}
use Rattle.amounts.specs.declared.settings.Settings.{Settings}
use Rattle.trace.specs.Number.{encode, num, decode, AreBytes}
use Rattle.trace.specs.Reading.{good, push, read_of, FileReads}
use Rattle.trace.specs.Writing.{part_bytes, file_bytes}
use Rattle.trace.proofs.Enough.{read_nil}
use Rattle.trace.proofs.Taking.{some, five}
use Rattle.trace.proofs.Spelling.{decode_encode, encode_decode}
use Rattle.trace.proofs.Ranges.{settled}
use Rattle.trace.proofs.Whole.{read_step, settings_step, some_ranged, ranged_small, decode_append, bytes_after}

-- the first request of a good read, with the requests after it: the common step of what follows
record Next (n c : ℕ) (s : List ℕ) (q : Request) (l : List Request) : Type 0 where
  s₁ : List ℕ
  s₂ : List ℕ
  s₃ : List ℕ
  file : decode s ≡ num q.file s₁
  size : decode s₁ ≡ num q.size s₂
  cost : decode s₂ ≡ num q.cost s₃
  ranged : Ranged c q
  rest : read_of n c s₃ ≡ good l

next : (n c : ℕ) (s : List ℕ) (q : Request) (l : List Request) → read_of n c s ≡ good (q ∷ l) → Next n c s q l
next n c [] q l e = let z : ◌≡◌ {A = ℕ} 0 1 = cc (read_nil n c) in absurd (omega arith)
next n c (b ∷ t) q l e =
    let p = some n c b t (q ∷ l) e in
    let eq : p.q ≡ q = cc p.split in
    let el : p.after ≡ l = cc p.split in
    subst (λ (x : Request). Next n c (b ∷ t) x l) eq
    (subst (Next n c (b ∷ t) p.q) el
    (record { s₁ = p.s₁; s₂ = p.s₂; s₃ = p.s₃; file = p.file; size = p.size; cost = p.cost; ranged = some_ranged p; rest = p.rest }))

none_left : (n c : ℕ) (s : List ℕ) → read_of n c s ≡ good [] → s ≡ []
none_left n c [] e = refl
none_left n c (b ∷ t) e = let p = some n c b t [] e in let z : ◌≡◌ {A = ℕ} 0 1 = cc p.split in absurd (omega arith)

-- A further part.

-- what is read is in range
pub part_ranged : (n c : ℕ) (l : List Request) (s : List ℕ) → read_of n c s ≡ good l → AllRanged c l
part_ranged n c [] s e = tt
part_ranged n c (q ∷ l) s e = let p = next n c s q l e in (p.ranged, part_ranged n c l p.s₃ p.rest)

-- what is written reads back, whatever the length that offsets are counted from
pub part_back : (n c : ℕ) → is_catalogue c ≡ true → (l : List Request) → AllRanged c l → read_of n c (part_bytes l) ≡ good l
part_back n c h [] a = read_nil n c
part_back n c h (q ∷ l) a =
    let small = ranged_small c q h a.0 in
    let e : part_bytes (q ∷ l) ≡ encode q.file ++ (encode q.size ++ (encode q.cost ++ part_bytes l)) = simp append_assoc in
    rw e
    (read_step n c _ _ _ _ q a.0
    (decode_encode q.file (encode q.size ++ (encode q.cost ++ part_bytes l)) small.file)
    (decode_encode q.size (encode q.cost ++ part_bytes l) small.size)
    (decode_encode q.cost (part_bytes l) small.cost)
    ∙ ap (push q) (part_back n c h l a.1))

-- what is read writes back
pub part_again : (n c : ℕ) (l : List Request) (s : List ℕ) → AreBytes s → read_of n c s ≡ good l → part_bytes l ≡ s
part_again n c [] s b e = sym (none_left n c s e)
part_again n c (q ∷ l) s b e =
    let p = next n c s q l e in
    let f = (encode_decode s q.file p.s₁ b p.file).0 in
    let b₁ = bytes_after (encode q.file) p.s₁ (subst AreBytes f b) in
    let z = (encode_decode p.s₁ q.size p.s₂ b₁ p.size).0 in
    let b₂ = bytes_after (encode q.size) p.s₂ (subst AreBytes z b₁) in
    let d = (encode_decode p.s₂ q.cost p.s₃ b₂ p.cost).0 in
    let b₃ = bytes_after (encode q.cost) p.s₃ (subst AreBytes d b₂) in
    let r = part_again n c l p.s₃ b₃ p.rest in
    simp append_assoc (rw (r, ← d, ← z, ← f))

-- only one spelling is read
pub part_one : (n m c : ℕ) (l : List Request) (s t : List ℕ) → AreBytes s → AreBytes t → read_of n c s ≡ good l → read_of m c t ≡ good l → s ≡ t
part_one n m c l s t bs bt e e' = sym (part_again n c l s bs e) ∙ part_again m c l t bt e'

-- a good read does not depend on the length that offsets are counted from
pub part_anywhere : (n m c : ℕ) (l : List Request) (s : List ℕ) → read_of n c s ≡ good l → read_of m c s ≡ good l
part_anywhere n m c [] s e = rw (none_left n c s e) (read_nil m c)
part_anywhere n m c (q ∷ l) s e =
    let p = next n c s q l e in
    read_step m c s _ _ _ q p.ranged p.file p.size p.cost ∙ ap (push q) (part_anywhere n m c l p.s₃ p.rest)

-- two parts one after the other hold the requests of the one, then of the other
pub part_append : (n m k c : ℕ) (l l' : List Request) (s t : List ℕ) → read_of n c s ≡ good l → read_of m c t ≡ good l' → read_of k c (s ++ t) ≡ good (l ++ l')
part_append n m k c [] l' s t e e' = rw (none_left n c s e) (part_anywhere m k c l' t e')
part_append n m k c (q ∷ l) l' s t e e' =
    let p = next n c s q l e in
    read_step k c (s ++ t) _ _ _ q p.ranged (decode_append s t _ _ p.file) (decode_append p.s₁ t _ _ p.size) (decode_append p.s₂ t _ _ p.cost)
    ∙ ap (push q) (part_append n m k c l l' p.s₃ t p.rest e')

-- A file.

-- what is read is in range
pub file_ranged : (trace : List ℕ) (s : Settings) (l : List Request) → FileReads trace s l → (in_range s ≡ true) × AllRanged s.catalogue.0 l
file_ranged trace s l r = ((five (length trace) trace s r.rest r.settings).in_range_lem, part_ranged (length trace) s.catalogue.0 l r.rest r.requests)

-- what is written reads back
pub file_back : (s : Settings) (l : List Request) → in_range s ≡ true → AllRanged s.catalogue.0 l → FileReads (file_bytes s l) s l
file_back s l h a =
    let r = settled s h in
    let e : file_bytes s l ≡ encode s.unit.0 ++ (encode s.policy.0 ++ (encode s.capacity.0 ++ (encode s.places.0 ++ (encode s.catalogue.0 ++ part_bytes l)))) = simp append_assoc in
    record {
      rest = part_bytes l;
      settings =
          settings_step (length (file_bytes s l)) (file_bytes s l) _ _ _ _ (part_bytes l) s r
          (ap decode e ∙ decode_encode s.unit.0 _ r.unit_small)
          (decode_encode s.policy.0 _ r.policy_small)
          (decode_encode s.capacity.0 _ r.capacity_small)
          (decode_encode s.places.0 _ r.places_small)
          (decode_encode s.catalogue.0 (part_bytes l) r.catalogue_small);
      requests = part_back (length (file_bytes s l)) s.catalogue.0 r.catalogue l a;
    }

-- what is read writes back
pub file_again : (trace : List ℕ) (s : Settings) (l : List Request) → AreBytes trace → FileReads trace s l → file_bytes s l ≡ trace
file_again trace s l b r =
    let p = five (length trace) trace s r.rest r.settings in
    let u = (encode_decode trace s.unit.0 p.s₁ b p.unit).0 in
    let b₁ = bytes_after (encode s.unit.0) p.s₁ (subst AreBytes u b) in
    let y = (encode_decode p.s₁ s.policy.0 p.s₂ b₁ p.policy).0 in
    let b₂ = bytes_after (encode s.policy.0) p.s₂ (subst AreBytes y b₁) in
    let z = (encode_decode p.s₂ s.capacity.0 p.s₃ b₂ p.capacity).0 in
    let b₃ = bytes_after (encode s.capacity.0) p.s₃ (subst AreBytes z b₂) in
    let k = (encode_decode p.s₃ s.places.0 p.s₄ b₃ p.places).0 in
    let b₄ = bytes_after (encode s.places.0) p.s₄ (subst AreBytes k b₃) in
    let g = (encode_decode p.s₄ s.catalogue.0 r.rest b₄ p.catalogue).0 in
    let b₅ = bytes_after (encode s.catalogue.0) r.rest (subst AreBytes g b₄) in
    let q = part_again (length trace) s.catalogue.0 l r.rest b₅ r.requests in
    simp append_assoc (rw (q, ← g, ← k, ← z, ← y, ← u))

-- only one spelling is read
pub file_one : (s : Settings) (l : List Request) (trace trace' : List ℕ) → AreBytes trace → AreBytes trace' → FileReads trace s l → FileReads trace' s l → trace ≡ trace'
file_one s l trace trace' b b' r r' = sym (file_again trace s l b r) ∙ file_again trace' s l b' r'
