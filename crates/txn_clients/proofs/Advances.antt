-- Parts of a step, each of which adds to the turn.
use Rattle.std.proofs.Common.{◌≡◌, ℕ, ◌+◌, ◌<◌, true, List, [], ◌∷◌, ◌++◌, length, set, Some, sym, ◌∙◌, subst, append-nil}
use Rattle.txn_kv.specs.declared.outbox.Errand.TheVariants.{Send, Sleep, Ask}
use Rattle.txn_history.specs.Posted.{Errand}
use Rattle.txn_side.specs.Sight.{AskersAre, Goes, Group, GroupsGo, HasAskers, IsAsk, IsNext, Sight, is_live, line_count, raised, ticket_in}
use Rattle.txn_side.specs.declared.turn.Ending.{Ending}
use Rattle.txn_side.specs.declared.turn.Posting.{Posting}
use Rattle.txn_side.specs.declared.turn.Turn.{Turn}
use Rattle.txn_clients.specs.Going.{Advances, AreNext, HasNext, next_after}
use Rattle.txn_clients.proofs.Sights.{goes_left, goes_posted, goes_quiet, goes_sent, goes_then}

-- nothing is done
pub advances_quiet : (turn : Turn) (old new : Sight) → new ≡ old → Advances turn turn old new
advances_quiet turn old new e first g = subst (λ s. Goes turn.posted.items turn.ended.items first s) (sym e) g

-- one part after another
pub advances_then : (from via to : Turn) (old mid new : Sight) → Advances from via old mid → Advances via to mid new → Advances from to old new
advances_then from via to old mid new a b first g = b first (a first g)

-- what a part is that goes so
pub advances_so : (from to : Turn) (ps : List Posting) (es : List Ending) (old new : Sight) → to.posted.items ≡ from.posted.items ++ ps → to.ended.items ≡ from.ended.items ++ es → Goes ps es old new → Advances from to old new
advances_so from to ps es old new posted ended k first g =
    subst (λ qs. Goes qs to.ended.items first new) (sym posted) (subst (λ fs. Goes (from.posted.items ++ ps) fs first new) (sym ended) (goes_then from.posted.items ps from.ended.items es first old new g k))

-- one is posted
pub advances_posted : (from to : Turn) (p : Posting) (old new : Sight) → to.posted.items ≡ from.posted.items ++ p ∷ [] → to.ended.items ≡ from.ended.items
    → is_live old (ticket_in p).line ≡ true → IsNext old.nexts (ticket_in p) → HasAskers p → AskersAre (line_count old) p → new ≡ record old { nexts = raised (ticket_in p).beat (ticket_in p).line old.nexts }
    → Advances from to old new
advances_posted from to p old new posted ended live next askers lines e =
    advances_so from to (p ∷ []) [] old new posted (ended ∙ sym (append-nil from.ended.items)) (subst (λ s. Goes (p ∷ []) [] old s) (sym e) (goes_posted p old live next askers lines))

-- a client's request for timestamps goes out
pub advances_sent : (from to : Turn) (p : Posting) (h : Group) (client : ℕ) (old new : Sight) → to.posted.items ≡ from.posted.items ++ p ∷ [] → to.ended.items ≡ from.ended.items
    → is_live old (ticket_in p).line ≡ true → IsNext old.nexts (ticket_in p) → HasAskers p → AskersAre (line_count old) p → IsAsk h p → client < length old.groups
    → new ≡ record old { groups = set old.groups client (Some h); nexts = raised (ticket_in p).beat (ticket_in p).line old.nexts }
    → Advances from to old new
advances_sent from to p h client old new posted ended live next askers lines ask there e =
    advances_so from to (p ∷ []) [] old new posted (ended ∙ sym (append-nil from.ended.items)) (subst (λ s. Goes (p ∷ []) [] old s) (sym e) (goes_sent p h client old live next askers lines ask there))

-- or is out no more
pub advances_left : (turn : Turn) (old new : Sight) → new.crashed ≡ old.crashed → new.stands ≡ old.stands → new.nexts ≡ old.nexts → GroupsGo [] old new → Advances turn turn old new
advances_left turn old new crashed stands nexts groups =
    advances_so turn turn [] [] old new (sym (append-nil turn.posted.items)) (sym (append-nil turn.ended.items)) (goes_left old new crashed stands nexts groups)

-- one ends
pub advances_ended : (from to : Turn) (e : Ending) (old new : Sight) → to.posted.items ≡ from.posted.items → to.ended.items ≡ from.ended.items ++ e ∷ [] → Goes [] (e ∷ []) old new → Advances from to old new
advances_ended from to e old new posted ended k = advances_so from to [] (e ∷ []) old new (posted ∙ sym (append-nil from.posted.items)) ended k

-- a whole step is all of its parts
pub advances_all : (from to : Turn) (old new : Sight) → from.posted.items ≡ [] → from.ended.items ≡ [] → Advances from to old new → Goes to.posted.items to.ended.items old new
advances_all from to old new posted ended a = a old (subst (λ ps. Goes ps from.ended.items old old) (sym posted) (subst (λ es. Goes [] es old old) (sym ended) (goes_quiet old)))

-- The numbers of what is posted

pub next_first : (next : ℕ) (r : Errand) (rs : List Errand) → AreNext next (r ∷ rs) → HasNext next r
next_first next (Send n to r) rs h = h.numbered.0
next_first next (Sleep n ms) rs h = h.numbered.0
next_first next (Ask n) rs h = tt

pub next_rest : (next : ℕ) (r : Errand) (rs : List Errand) → AreNext next (r ∷ rs) → AreNext (next_after r next) rs
next_rest next (Send n to r) rs h = record { ask = h.ask; end = h.end; end_ask = h.end_ask; numbered = h.numbered.1 }
next_rest next (Sleep n ms) rs h = record { ask = h.ask; end = h.end; end_ask = h.end_ask; numbered = h.numbered.1 }
next_rest next (Ask n) rs h = record { ask = h.ask + 1; end = h.end; end_ask = h.end_ask; numbered = h.numbered.1 }

-- what is left of them, where the first is done
pub next_left : (next : ℕ) (rs : List Errand) (r : Errand) (rest : List Errand) → rs ≡ r ∷ rest → AreNext next rs → AreNext next (r ∷ rest)
next_left next rs r rest e h = subst (AreNext next) e h

pub next_done : (next to : ℕ) (rs : List Errand) (r : Errand) (rest : List Errand) → rs ≡ r ∷ rest → to ≡ next_after r next → AreNext next rs → AreNext to rest
next_done next to rs r rest e k h = subst (λ n. AreNext n rest) (sym k) (next_rest next r rest (next_left next rs r rest e h))
