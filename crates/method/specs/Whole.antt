-- Whole inflation and whole keys: what the lifts took is put back. The methods know no lift (document 02, ticket 5). Assumes nothing.
use Rattle.std.specs.Prelude.{List, [], ◌∷◌, map, ℕ, ◌+◌, ◌*◌, leb}
use Rattle.amounts.specs.Limits.{pick, lift}
use Rattle.amounts.specs.Requests.{Request}
use Rattle.method.specs.Shelf.{Kept, Slot, none, kept}
use Rattle.method.specs.Method.{Gone, Reply, Served, State, Run}

-- document 02, ticket 5: a whole key, where d was taken from it
abbrev pub higher : ℕ → Kept → Kept
higher d r = record { size = r.size; cost = r.cost; freq = r.freq; key = d + r.key; stamp = r.stamp }

-- document 02, ticket 5: what is kept of a file, if anything, with its whole key
abbrev pub raise : ℕ → Slot → Slot
raise d none = none
raise d (kept r) = kept (higher d r)

-- document 02, ticket 5: whole inflation and whole keys, where d was taken from them
abbrev pub whole : ℕ → State → State
whole d st = record { inflation = d + st.inflation; shelf = map (raise d) st.shelf; stamp = st.stamp }

-- document 02, ticket 5: an evicted file with its whole key
abbrev pub whole_gone : ℕ → Gone → Gone
whole_gone d g = record { file = g.file; was = higher d g.was }

-- document 02, ticket 5: what a request gives, with the whole keys of what it dropped and evicted
abbrev pub whole_reply : ℕ → Reply → Reply
whole_reply d a = record { dropped = raise d a.dropped; evicted = map (whole_gone d) a.evicted; outcome = a.outcome; size = a.size; cost = a.cost }

-- document 02, ticket 5: the same with the whole state after it
abbrev pub whole_served : ℕ → Served State → Served State
whole_served d x = record { state = whole d x.state; reply = whole_reply d x.reply }

-- document 02, ticket 5: the same of a run
abbrev pub whole_run : ℕ → Run State → Run State
whole_run d x = record { state = whole d x.state; replies = map (whole_reply d) x.replies }

-- document 02, ticket 5: before a request, when L has reached one lift, there is one lift more; l is whole inflation
unfoldable pub lifted : ℕ → ℕ → ℕ
lifted lifts l = pick (leb ((lifts + 1) * lift) l) (lifts + 1) lifts

-- document 02, ticket 5: how many lifts there are after the requests, by whole inflation before each; the method f does not ask for them
unfoldable pub lifts_of : (State → Request → Served State) → ℕ → State → List Request → ℕ
lifts_of f lifts st [] = lifts
lifts_of f lifts st (q ∷ qs) = lifts_of f (lifted lifts st.inflation) (f st q).state qs
