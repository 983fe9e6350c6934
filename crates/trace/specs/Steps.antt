-- What the functions below the reading entry points promise: the steps of their loops. Assumes nothing.
use Rattle.std.specs.Prelude.{ℕ, ◌+◌, ◌≤◌, ◌<◌, ◌≡◌, List, ◌∷◌, Bool, true, false, length, drop, Result, Ok, Err, MatchResult}
use Rattle.amounts.specs.Limits.{is_catalogue}
use Rattle.amounts.specs.Requests.{Request}
use Rattle.card.specs.declared.Refusal.{Refusal}
use Rattle.card.specs.declared.Refusal.TheVariants.{Setting, Form}
use Rattle.trace.specs.Fields.{Field, val, off}
use Rattle.trace.specs.Number.{num, bad, decode}
use Rattle.trace.specs.Reading.{Read, good, stop, push, read_of, roomy, rows}
use Rattle.trace.specs.Promise.{Over, room}
use Rattle.trace.specs.declared.number.Number.{Number}
use Rattle.trace.specs.declared.numbers.FileNumbers.{FileNumbers}
use Rattle.trace.specs.declared.reader.Taken.{Taken}

-- document 01, "Numbers on the red card", 1: r is a catalogue in range, or the refusal of one that is not
abbrev pub Numbering : ℕ → Result FileNumbers Refusal → Type 0
Numbering catalogue r = MatchResult r (λ numbers. numbers.catalogue.0 ≡ catalogue) (λ e. (e ≡ Setting) × (is_catalogue catalogue ≡ false))

-- there is a number at a place of the bytes
pub record Numbered (part : List ℕ) (at : ℕ) : Type 0 where
  pub value : ℕ
  pub rest : List ℕ
  pub spelt : decode (drop at part) ≡ num value rest

-- r is the number at a place of the bytes, with the place after it
pub record NumberAt (part : List ℕ) (at : ℕ) (r : Number) : Type 0 where
  pub spelt : decode (drop at part) ≡ num r.value (drop r.next part)
  pub inside : r.next ≤ length part

-- r is the number at a place of the bytes; where there is none, the refusal with that place
abbrev pub NumberRead : List ℕ → ℕ → Result Number Refusal → Type 0
NumberRead part at r = MatchResult r (NumberAt part at) (λ e. (e ≡ Form at) × (decode (drop at part) ≡ bad))

-- a test that the code is given, of which P tells the answers, is this one
abbrev pub Tells : (ℕ → Bool → Type 0) → (ℕ → Bool) → Type 0
Tells P inside = (v : ℕ) (t : Bool) → P v t → t ≡ inside v

-- x is the field whose value is n, and n stands before the end of the bytes
pub record FieldVal (x : Field) (part : List ℕ) (at : ℕ) (n : Number) : Type 0 where
  pub judged : x ≡ val n.value (drop n.next part)
  pub further : at < n.next
  pub inside : n.next ≤ length part

-- r is the field x, which stands at a place of the bytes
abbrev pub FieldRead : Field → List ℕ → ℕ → Result Number Refusal → Type 0
FieldRead x part at r = MatchResult r (FieldVal x part at) (λ e. x ≡ off e)

-- there is a request before the place r, and x is what that request and those from r on read as
pub record RequestVal (x : Read) (part : List ℕ) (catalogue at r : ℕ) : Type 0 where
  pub request : Request
  pub judged : x ≡ push request (read_of (length part) catalogue (drop r part))
  pub further : at < r
  pub inside : r ≤ length part

-- r is the place after the request at a place, or the refusal with which x stops there
abbrev pub RequestRead : Read → List ℕ → ℕ → ℕ → Result ℕ Refusal → Type 0
RequestRead x part catalogue at r = MatchResult r (RequestVal x part catalogue at) (λ e. x ≡ stop e)

-- r is the request q, and l are the requests after it
pub record First (part : List ℕ) (n catalogue : ℕ) (r : Taken) (q : Request) (l : List Request) : Type 0 where
  pub file : r.request.file ≡ q.file
  pub size : r.request.size ≡ q.size
  pub cost : r.request.cost ≡ q.cost
  pub inside : r.next ≤ length part
  pub rest : read_of n catalogue (drop r.next part) ≡ good l

-- there is a request at a place of the bytes, under some catalogue in range
pub record Requested (part : List ℕ) (at : ℕ) : Type 0 where
  pub n : ℕ
  pub catalogue : ℕ
  pub catalogue_in : is_catalogue catalogue ≡ true
  pub q : Request
  pub after : List Request
  pub reads : read_of n catalogue (drop at part) ≡ good (q ∷ after)

-- r is the request at a place of the bytes, with the place after it, whatever the catalogue
pub record RequestAt (part : List ℕ) (at : ℕ) (r : Taken) : Type 0 where
  pub first : (n catalogue : ℕ) (q : Request) (l : List Request) → is_catalogue catalogue ≡ true → read_of n catalogue (drop at part) ≡ good (q ∷ l) → First part n catalogue r q l

-- what the checking pass answers, after k requests counted already
abbrev pub counted : ℕ → Read → Result ℕ Refusal
counted k (good l) = Ok (k + length l)
counted k (stop r) = Err r

-- the checking pass has counted the requests, and there is room for them
pub record Ready (part : List ℕ) (catalogue from count : ℕ) (f s d : List ℕ) : Type 0 where
  pub catalogue_in : is_catalogue catalogue ≡ true
  pub inside : from ≤ length part
  pub counts : counted 0 (read_of (length part) catalogue (drop from part)) ≡ Ok count
  pub room_files : count ≤ length f
  pub room_sizes : count ≤ length s
  pub room_costs : count ≤ length d

-- the requests x that the bytes hold, or the refusal, answered and put into the lists
pub record ReadFrom (x : Read) (f s d : List ℕ) (r : Result ℕ Refusal) (f' s' d' : List ℕ) : Type 0 where
  pub answer : r ≡ counted 0 (roomy (room f s d) x)
  pub lists : Over (rows (roomy (room f s d) x)) f s d f' s' d'
