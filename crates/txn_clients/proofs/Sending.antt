-- A client's request for timestamps goes out, and is out no more.
use Rattle.std.proofs.Common.{◌≡◌, ◌⊎◌, inl, ℕ, ◌<◌, ◌≤◌, true, false, List, [], ◌∷◌, ◌++◌, length, map, get_or, set, Option, Some, None, refl, sym, ap, ◌∙◌, subst, arith}
use Rattle.std.proofs.lemmas.List.{length-map, map-set}
use Rattle.std.specs.List.{All, Any}
use Rattle.std.specs.Prelude.{IfOk, IfSome, Result}
use Rattle.txn_kv.specs.declared.reply.Reply.{Reply}
use Rattle.txn_kv.specs.declared.reply.Reply.TheVariants as replies
use Rattle.txn_kv.specs.declared.reply.cluster.TsoResponse.{TsoResponse}
use Rattle.txn_kv.specs.declared.ticket.Ticket.{Ticket}
use Rattle.txn_side.specs.Sight.{AskersAre, Group, HasAskers, IsAsk, IsNext, Nexts, is_live, line_count, ticket_in, with_next}
use Rattle.txn_side.specs.declared.turn.Posting.{Posting}
use Rattle.txn_side.specs.declared.turn.Turn.{Turn}
use Rattle.txn_tso.specs.Oracle.{Answer, answered, askers_out}
use Rattle.txn_clients.specs.Clients.{AreGiven, HasOut, asks_at, crashed_of, groups_of, nexts_of, rows_of, sight_of, stands_of}
use Rattle.txn_clients.specs.Going.{Advances}
use Rattle.txn_clients.specs.Groups.{IsLeft, IsRefused, group_by, group_of, lines_out}
use Rattle.txn_clients.specs.declared.client_state.ClientState.{ClientState}
use Rattle.txn_clients.specs.declared.client_state.Group.{Group as Sent}
use Rattle.txn_clients.specs.declared.clients.Clients.{Clients}
use Rattle.txn_clients.proofs.Advances.{advances_sent}
use Rattle.txn_clients.proofs.Groups.{IsIn, left_in}
use Rattle.txn_clients.proofs.Stands.{or_same}
use Rattle.txn_clients.proofs.Tables.{map_kept, raised_calls, read_in, sight_by}
use Rattle.txn_clients.proofs.Timestamps.{gives_in, none_some, refused_none, some_same}

-- One of the clients is replaced

there : (cs : List ClientState) (i : ℕ) → i < length (map (λ (c : ClientState). c.crashed) cs) → i < length cs
there cs i h = let long = length-map cs (λ (c : ClientState). c.crashed) in omega (arith, h, long)

-- what is out of its is as it was
pub groups_kept : (cs : List ClientState) (i : ℕ) (new d : ClientState) → i < length (map (λ (c : ClientState). c.crashed) cs) → d ≡ get_or cs i d → group_of new ≡ group_of d → map group_of (set cs i new) ≡ map group_of cs
groups_kept cs i new d h e k = map_kept group_of cs i new d (there cs i h) (k ∙ ap group_of e)

group_there : (cs : List ClientState) (i : ℕ) (d : ClientState) → i < length (map (λ (c : ClientState). c.crashed) cs) → d ≡ get_or cs i d → get_or (map group_of cs) i None ≡ group_of d
group_there cs i d h e = read_in group_of cs i d None (there cs i h) ∙ ap group_of (sym e)

pub asks_there : (cs : List ClientState) (i : ℕ) (d : ClientState) → i < length (map (λ (c : ClientState). c.crashed) cs) → d ≡ get_or cs i d → get_or (map lines_out cs) i [] ≡ lines_out d
asks_there cs i d h e = read_in lines_out cs i d [] (there cs i h) ∙ ap lines_out (sym e)

-- what its oracle has sent is this
pub asks_put : (cs : List ClientState) (i : ℕ) (new : ClientState) → i < length (map (λ (c : ClientState). c.crashed) cs) → get_or (map lines_out (set cs i new)) i [] ≡ lines_out new
asks_put cs i new h =
    let within : i < length (map lines_out cs) = let short = there cs i h in let long = length-map cs lines_out in omega (arith, short, long) in
    ap (λ ls. get_or ls i []) (map-set lines_out cs i new) ∙ or_same (map lines_out cs) i (lines_out new) [] within

pub asked_so : {E : Type 0} (r : Result (Option Sent) E) (xs ys : List ℕ) → xs ≡ ys → IfOk r (λ o. IfSome o (λ g. g.askers ≡ xs)) → IfOk r (λ o. IfSome o (λ g. g.askers ≡ ys))
asked_so r xs ys e h = subst (λ zs. IfOk r (λ (o : Option Sent). IfSome o (λ (g : Sent). g.askers ≡ zs))) e h

pub lines_so : {E : Type 0} (r : Result (Option Sent) E) (m n : ℕ) → m ≡ n → IfOk r (λ o. IfSome o (λ g. All (λ k. k ≤ m) g.askers)) → IfOk r (λ o. IfSome o (λ g. All (λ k. k ≤ n) g.askers))
lines_so r m n e h = subst (λ i. IfOk r (λ (o : Option Sent). IfSome o (λ (g : Sent). All (λ k. k ≤ i) g.askers))) e h

-- or is out no more
pub groups_left : (cs : List ClientState) (i : ℕ) (new d : ClientState) → i < length (map (λ (c : ClientState). c.crashed) cs) → d ≡ get_or cs i d → IsLeft (group_of d) (group_of new)
    → (g : Group) → IsIn (map group_of (set cs i new)) g → IsIn (map group_of cs) g ⊎ Any (IsAsk g) []
groups_left cs i new d h e left g out =
    let within : i < length (map group_of cs) = let short = there cs i h in let long = length-map cs group_of in omega (arith, short, long) in
    inl (left_in (map group_of cs) i (group_of new) g within (subst (λ x. IsLeft x (group_of new)) (sym (group_there cs i d h e)) left) (subst (λ gs. IsIn gs g) (map-set group_of cs i new) out))

-- or is this
pub groups_sent : (cs : List ClientState) (i : ℕ) (t : Ticket) (d : ClientState) → i < length (map (λ (c : ClientState). c.crashed) cs) → d ≡ get_or cs i d
    → map group_of (set cs i (record d { group = Some t })) ≡ set (map group_of cs) i (Some (record { ticket = t; askers = get_or (map lines_out cs) i [] }))
groups_sent cs i t d h e =
    map-set group_of cs i (record d { group = Some t })
    ∙ ap (λ ls. set (map group_of cs) i (Some (record { ticket = t; askers = ls }))) (sym (asks_there cs i d h e))

-- What is out

abbrev askers_in : Option Group → List ℕ
askers_in None = []
askers_in (Some g) = g.askers

out_lines : (o : Option Ticket) (lines : List ℕ) (g : Group) → group_by o lines ≡ Some g → g.askers ≡ lines
out_lines None lines g e = absurd (no e)
  where
    no : None ≡ Some g → ⊥
    no q = cc
out_lines (Some t) lines g e = sym (ap askers_in e)

module _ {P : Type 0} where
  -- the request of this ticket is out
  pub has_out : (s : Clients P) (client : ℕ) (t : Ticket) (cs : List ClientState) (d : ClientState) → cs ≡ s.clients.items → client < length cs → d ≡ get_or cs client d → d.group ≡ Some t → HasOut (sight_of s) client t
  has_out s client t cs d same h e out = (
    lines_out d,
    subst (λ ds. get_or (map group_of ds) client None ≡ Some (record { ticket = t; askers = lines_out d })) same
        (read_in group_of cs client d None h ∙ ap group_of (sym e) ∙ ap (λ o. group_by o (lines_out d)) out),
  )

  -- what comes for it gives
  pub gives_out : (s : Clients P) (client : ℕ) (d : ClientState) (reply : Option Reply) (given : List Answer) → client < length (crashed_of s) → d ≡ get_or s.clients.items client d
      → ((times : TsoResponse) → reply ≡ Some (replies.Tso times) → given ≡ answered times d.oracle) → (((times : TsoResponse) → reply ≡ Some (replies.Tso times) → ⊥) → All IsRefused given)
      → AreGiven (sight_of s) client reply given
  gives_out s client d (Some o) given h e granted refused t (askers, out) line version timed =
      let group : group_of d ≡ Some (record { ticket = t; askers = askers }) = sym (group_there s.clients.items client d h e) ∙ out in
      let lines = out_lines d.group (lines_out d) (record { ticket = t; askers = askers }) group in
      record {
        group = record { ticket = t; askers = askers };
        out = (client, out);
        ticket = refl;
        gives = gives_in o askers given (askers_out d.oracle) lines (λ times is. granted times (ap Some is)) (λ f. refused (λ times is. f times (some_same is))) line version timed;
      }
  gives_out s client d None given h e granted refused t out line version timed = refused_none given (refused (λ times is. none_some is)) line version timed

  pub same_asks : (s t : Clients P) (client : ℕ) → t.clients ≡ s.clients → asks_at t client ≡ asks_at s client
  same_asks s t client e = ap (λ v. get_or (map lines_out v.items) client []) e

  -- it goes out
  pub sends_one : (s t : Clients P) (from to : Turn) (p : Posting) (h : Group) (client line : ℕ) → to.posted.items ≡ from.posted.items ++ p ∷ [] → to.ended.items ≡ from.ended.items
      → (ticket_in p).line ≡ line → (ticket_in p).beat ≡ false → is_live (sight_of s) line ≡ true → IsNext (sight_of s).nexts (ticket_in p) → HasAskers p → AskersAre (line_count (sight_of s)) p → IsAsk h p → client < length (crashed_of s)
      → crashed_of t ≡ crashed_of s → groups_of t ≡ set (groups_of s) client (Some h) → rows_of t ≡ rows_of s → nexts_of t ≡ with_next (nexts_of s) line → Advances from to (sight_of s) (sight_of t)
  sends_one s t from to p h client line posted ended own beat live next askers lines ask inside crashed groups rows nexts =
      let within : client < length (groups_of s) = let short = there s.clients.items client inside in let long = length-map s.clients.items group_of in omega (arith, short, long) in
      advances_sent from to p h client (sight_of s) (sight_of t) posted ended (ap (is_live (sight_of s)) own ∙ live) next askers lines ask within
      (sight_by (crashed_of t) (crashed_of s) (groups_of t) (set (groups_of s) client (Some h)) (stands_of (rows_of t)) (stands_of (rows_of s)) (nexts_of t) (with_next (nexts_of s) (ticket_in p).line)
      crashed groups (ap stands_of rows) (nexts ∙ ap (with_next (nexts_of s)) (sym own))
      ∙ ap (λ (ns : Nexts). record (sight_of s) { groups = set (groups_of s) client (Some h); nexts = ns }) (raised_calls (nexts_of s) (ticket_in p) beat))
