-- One eliminator for the promise of a run carried on: the answer that is due, and what was given is that. Assumes nothing.
use mathlib.Core.Path.{◌≡◌, refl, ap}
use mathlib.Core.Bool.{Bool, true, false}
use mathlib.Core.List.{List}
use mathlib.Core.Logic.{◌⊎◌, inl, inr}
use Prim.Native.Nat.{ℕ}
use native.Mathlib.Omega.{arith}
use lib.ListN.{length}
use Rattle.std.specs.Prelude.{Result, Ok, Err, ⊤}
use Rattle.amounts.specs.Settings.{in_range}
use Rattle.card.specs.declared.Refusal.{Refusal}
use Rattle.card.specs.declared.Refusal.TheVariants.{Unsound}
use Rattle.tables.specs.Tables.{Tables}
use Rattle.tables.specs.Start.{long}
use Rattle.tables.specs.Sound.{Sound}
use Rattle.tables.specs.declared.tally.Tally.{Tally}
use Rattle.tables.proofs.SoundDecided.{sound_decided}
use Rattle.serving.specs.Serving.{beyond_of}
use Rattle.refusing.specs.Judging.{fitting, settled}
use Rattle.refusing.proofs.Rooms.{Fits, fits, settled_fine}
use Rattle.replay.specs.Carrying.{Carried, Answers, Settles, Carries}

-- the first of the three verdicts that refuses, else the last
abbrev pub due : Result ⊤ Refusal → Bool → Result ℕ Refusal → Result ℕ Refusal
due (Err x) sound fit = Err x
due (Ok tt) true fit = fit
due (Ok tt) false fit = Err Unsound

abbrev pub yes : {P : Type 0} → P ⊎ (P → ⊥) → Bool
yes (inl p) = true
yes (inr n) = false

pub yes_true : {P : Type 0} (d : P ⊎ (P → ⊥)) → P → yes d ≡ true
yes_true (inl p) q = refl
yes_true (inr n) q = absurd (n q)

module _ (a : Tally) (t : Tables) (told : List ℕ) (unit : ℕ) (part : List ℕ) where
  -- what the call is due
  pub due_here : Result ℕ Refusal
  due_here = due (settled unit a (long a.settings t)) (yes (sound_decided a t)) (fitting a part (length told))

  -- of sound tables it hangs on the tables by their lengths alone
  pub due_sound : Sound a t → due_here ≡ due (settled unit a (long a.settings t)) true (fitting a part (length told))
  unfolding due_here
  due_sound s = ap (λ (b : Bool). due (settled unit a (long a.settings t)) b (fitting a part (length told))) (yes_true (sound_decided a t) s)

  -- and what it is given is that
  pub answers : (r : Carried) (u : Tables) (told' : List ℕ) → Carries a t told r u told' unit part → Answers a t told r u told' part due_here
  unfolding due_here
  answers r u told' h = go (settled unit a (long a.settings t)) (sound_decided a t) h
    where
      go : (x : Result ⊤ Refusal) (d : Sound a t ⊎ (Sound a t → ⊥)) → Settles a t told r u told' part x → Answers a t told r u told' part (due x (yes d) (fitting a part (length told)))
      go (Err x) d h = h
      go (Ok tt) (inl s) h = h.sound s
      go (Ok tt) (inr n) h = h.unsound n

  -- what is known where the call is due its work
  pub record Sure (n : ℕ) : Type 0 where
    pub range : in_range a.settings ≡ true
    pub sound : Sound a t
    pub fits : Fits a part n (length told)

  pub sure : (n : ℕ) → due_here ≡ Ok n → Sure n
  unfolding due_here
  sure n e = go (settled unit a (long a.settings t)) refl (sound_decided a t) e
    where
      go : (x : Result ⊤ Refusal) → settled unit a (long a.settings t) ≡ x → (d : Sound a t ⊎ (Sound a t → ⊥)) → due x (yes d) (fitting a part (length told)) ≡ Ok n → Sure n
      go (Err x) q d e = let z : ◌≡◌ {A = ℕ} 0 1 = cc in absurd (omega arith)
      go (Ok tt) q (inl s) e = record { range = (settled_fine unit a (long a.settings t) q).0; sound = s; fits = fits a part n (length told) e }
      go (Ok tt) q (inr m) e = let z : ◌≡◌ {A = ℕ} 0 1 = cc in absurd (omega arith)

-- entries beyond the needed ones are as they were, whatever the answer
pub past : (a : Tally) (t : Tables) (told : List ℕ) (r : Carried) (u : Tables) (told' part : List ℕ) (z : Result ℕ Refusal)
    → Answers a t told r u told' part z → beyond_of a.settings u ≡ beyond_of a.settings t
past a t told r u told' part (Err x) h = ap (beyond_of a.settings) h.lent
past a t told r u told' part (Ok n) h = h.past
