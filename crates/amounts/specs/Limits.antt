-- The limits of document 01, "Numbers": each has this one name. Assumes nothing.
use Rattle.std.specs.Prelude.{ℕ, ◌*◌, Bool, true, false, ◌&&◌, leb, ltb}

-- a or b, by a test
abbrev pub pick : {A : Type 0} → Bool → A → A → A
pick true a b = a
pick false a b = b

abbrev pub unit_most : ℕ
unit_most = 4294967295

abbrev pub policy_most : ℕ
policy_most = 2

abbrev pub capacity_most : ℕ
capacity_most = 1099511627775

abbrev pub places_most : ℕ
places_most = 4096

abbrev pub catalogue_most : ℕ
catalogue_most = 32768

abbrev pub size_most : ℕ
size_most = 16777215

abbrev pub cost_most : ℕ
cost_most = 65535

-- document 02, ticket 5: the most requests of a run
abbrev pub requests_most : ℕ
requests_most = 4294967295

-- document 02, ticket 5: where frequency stops rising
abbrev pub frequency_most : ℕ
frequency_most = 1048575

-- document 02, ticket 5: what is taken from L and from every key when L has reached it, 2 to the 60th
abbrev pub lift : ℕ
lift = 1152921504606846976

-- document 01, "Tables and the tally": the place of a file that is not kept
abbrev pub no_place : ℕ
no_place = 65535

-- one more than the largest 64-bit number
abbrev pub word : ℕ
word = 18446744073709551616

-- n is at least 1 and at most m
unfoldable pub one_to : ℕ → ℕ → Bool
one_to m n = pick (ltb n 1) false (leb n m)

abbrev pub is_unit : ℕ → Bool
is_unit n = leb n unit_most

abbrev pub is_policy : ℕ → Bool
is_policy n = one_to policy_most n

abbrev pub is_capacity : ℕ → Bool
is_capacity n = one_to capacity_most n

abbrev pub is_places : ℕ → Bool
is_places n = one_to places_most n

abbrev pub is_catalogue : ℕ → Bool
is_catalogue n = one_to catalogue_most n

abbrev pub is_size : ℕ → Bool
is_size n = one_to size_most n

abbrev pub is_cost : ℕ → Bool
is_cost n = leb n cost_most

-- document 01, "Tables and the tally": n files, each at least 1 and at most m, can come to a total: n ≤ total ≤ n × m
unfoldable pub total_of : ℕ → ℕ → ℕ → Bool
total_of m n total = leb n total && leb total (n * m)
