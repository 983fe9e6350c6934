-- What writing requests means (document 01, "Trace bytes"). Assumes nothing.
use Rattle.std.specs.Prelude.{ℕ, suc, min, List, [], ◌∷◌, ◌++◌, length, leb, ltb}
use Rattle.amounts.specs.Limits.{pick, is_catalogue}
use Rattle.amounts.specs.Settings.{in_range}
use Rattle.amounts.specs.Requests.{Request}
use Rattle.amounts.specs.declared.settings.Settings.{Settings}
use Rattle.card.specs.declared.Refusal.{Refusal}
use Rattle.card.specs.declared.Refusal.TheVariants.{Setting, Short, Range, Room}
use Rattle.trace.specs.Number.{encode}
use Rattle.trace.specs.Fields.{is_request}

-- document 01, "Trace bytes": file, size, cost
abbrev pub request_bytes : Request → List ℕ
request_bytes q = encode q.file ++ (encode q.size ++ encode q.cost)

-- document 01, "Trace bytes": a further part holds requests alone
abbrev pub part_bytes : List Request → List ℕ
part_bytes [] = []
part_bytes (q ∷ l) = request_bytes q ++ part_bytes l

-- document 01, "Trace bytes": unit, policy, capacity, places, catalogue
abbrev pub settings_bytes : Settings → List ℕ
settings_bytes s = encode s.unit.0 ++ (encode s.policy.0 ++ (encode s.capacity.0 ++ (encode s.places.0 ++ encode s.catalogue.0)))

-- document 01, "Trace bytes": a file is its settings, then its requests
abbrev pub file_bytes : Settings → List Request → List ℕ
file_bytes s l = settings_bytes s ++ part_bytes l

-- document 01, "Trace bytes": three lent lists, one entry a request; the writer's file list fixes the count
abbrev pub requests_in : List ℕ → List ℕ → List ℕ → List Request
requests_in [] sizes costs = []
requests_in (f ∷ files) [] costs = []
requests_in (f ∷ files) (s ∷ sizes) [] = []
requests_in (f ∷ files) (s ∷ sizes) (c ∷ costs) = record { file = f; size = s; cost = c } ∷ requests_in files sizes costs

-- document 01, "Numbers on the red card", 4: the index of the first request out of range, or how many there are
abbrev pub first_out : ℕ → List Request → ℕ
first_out catalogue [] = 0
first_out catalogue (q ∷ l) = pick (is_request catalogue q) (suc (first_out catalogue l)) 0

-- the bytes to write, or the refusal
pub data Put : Type 0 where
  bytes : List ℕ → Put
  stop : Refusal → Put

-- document 01, "Numbers on the red card", 6: the writer's buffer too short
abbrev pub in_room : ℕ → List ℕ → Put
in_room room bs = pick (leb (length bs) room) (bytes bs) (stop Room)

-- 4, then 6, where `front` stands before the requests
abbrev pub in_order : ℕ → List ℕ → ℕ → List Request → Put
in_order catalogue front room l = pick (ltb (first_out catalogue l) (length l)) (stop (Range (first_out catalogue l))) (in_room room (front ++ part_bytes l))

-- 2, then 4, then 6
abbrev pub listed : ℕ → List ℕ → ℕ → List ℕ → List ℕ → List ℕ → Put
listed catalogue front room files sizes costs =
    pick (leb (length files) (min (length sizes) (length costs))) (in_order catalogue front room (requests_in files sizes costs)) (stop Short)

-- document 01, "Order": the writer judges 1, 2, 4, then 6, a further part
unfoldable pub part_put : ℕ → ℕ → List ℕ → List ℕ → List ℕ → Put
part_put catalogue room files sizes costs = pick (is_catalogue catalogue) (listed catalogue [] room files sizes costs) (stop Setting)

-- document 01, "Order": the same for a file, whose settings are all judged
unfoldable pub file_put : Settings → ℕ → List ℕ → List ℕ → List ℕ → Put
file_put s room files sizes costs = pick (in_range s) (listed s.catalogue.0 (settings_bytes s) room files sizes costs) (stop Setting)

-- document 01, "Order": the bytes that are written, none where the writer refuses
abbrev pub written : Put → List ℕ
written (bytes bs) = bs
written (stop r) = []
