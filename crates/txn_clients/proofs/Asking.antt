-- What becomes of the sight as a machine asks something of the clients.
use Rattle.std.proofs.Common.{◌≡◌, ◌≢◌, ℕ, zero, suc, ◌-◌, ◌<◌, ◌≤◌, Bool, true, false, ◌&&◌, List, [], ◌∷◌, ◌++◌, length, map, get_or, set, Some, None, refl, sym, ap, ◌∙◌, subst, arith, length-set}
use Rattle.std.proofs.lemmas.List.{length-map, map-append, map-set}
use Rattle.std.proofs.lemmas.List.Elements.{All-append, All-cons, All-nil}
use Rattle.std.specs.Prelude.{IfOk, Result}
use Rattle.txn_commit.specs.Ways.{Ways}
use Rattle.txn_client.specs.Calls.{CallReady}
use Rattle.txn_client.specs.declared.client_call.ClientCall.{ClientCall}
use Rattle.txn_core.specs.Transaction.{Standing}
use Rattle.txn_side.specs.Sight.{Goes, Sight, Stand, client_at, connected, crash, free, is_free, is_live, line_count, stand_at, with_stand, without}
use Rattle.txn_side.specs.Sight.Stand.{Asking, Calling, HasBegun, Idle, IsClient}
use Rattle.txn_lines.specs.declared.act.Act.{Act}
use Rattle.txn_side.specs.declared.turn.Turn.{Turn}
use Rattle.txn_clients.specs.Accounts.{WantsNew}
use Rattle.txn_clients.specs.Clients.{AreReady, IsLine, Listens, crashed_of, groups_of, nexts_of, row_at, rows_of, sight_of, stands_of}
use Rattle.txn_clients.specs.Going.{Advances}
use Rattle.txn_clients.specs.Groups.{group_by, group_of, lines_out}
use Rattle.txn_clients.specs.Matching.{AreMatched}
use Rattle.txn_clients.specs.Rows.{MayHear, Pd, RowReady, stand_of, with_waits}
use Rattle.txn_clients.specs.declared.client_state.ClientState.{ClientState}
use Rattle.txn_clients.specs.declared.clients.Clients.{Clients}
use Rattle.txn_clients.specs.declared.place.Place.{Place}
use Rattle.txn_clients.specs.declared.row.Row.{Row}
use Rattle.txn_clients.specs.declared.row.Row.TheVariants as row
use Rattle.txn_clients.specs.declared.told.Told.TheVariants as tells
use Rattle.txn_clients.proofs.Advances.{advances_all, advances_then}
use Rattle.txn_clients.proofs.Listening.{asked_listens, called_listens}
use Rattle.txn_clients.proofs.Stands.{matched_opened, or_other, or_same, stand_same}
use Rattle.txn_clients.proofs.Telling.{begun_line}
use Rattle.txn_clients.proofs.Tables.{called_stands, ready_called, ready_set, sight_at, sight_by, stand_of_line, stands_set}

-- A whole step

-- two parts of a turn that was empty
pub goes_whole : (from via to : Turn) (old mid new : Sight) → from.posted.items ≡ [] → from.ended.items ≡ [] → Advances from via old mid → Advances via to mid new → Goes to.posted.items to.ended.items old new
goes_whole from via to old mid new posted ended a b = advances_all from to old new posted ended (advances_then from via to old mid new a b)

-- what a step made of what is seen, told of what was seen the same
pub turn_from : {E : Type 0} (r : Result Turn E) (first old new : Sight) → first ≡ old → IfOk r (λ t. Goes t.posted.items t.ended.items first new) → IfOk r (λ t. Goes t.posted.items t.ended.items old new)
turn_from r first old new e h = subst (λ v. IfOk r (λ (t : Turn). Goes t.posted.items t.ended.items v new)) e h

-- Where there is a client

pub crash_there : (s : Sight) (line c : ℕ) → client_at (stand_at s.stands line) ≡ Some c → crash line s ≡ record s { crashed = set s.crashed c true }
crash_there s line c e = ap (λ o. record s { crashed = without o s.crashed }) e

-- Whether a transaction is free

pub free_so : (s : Sight) (x c : ℕ) → true ≡ is_live s x → stand_at s.stands x ≡ HasBegun c 0 → true ≡ is_free s x
free_so s x c live e = sym (ap free e) ∙ ap (λ b. b && free (stand_at s.stands x)) live

neither : (b : Bool) → b && false ≡ false
neither true = refl
neither false = refl

pub taken_so : (s : Sight) (x : ℕ) → free (stand_at s.stands x) ≡ false → false ≡ is_free s x
taken_so s x e = sym (ap (λ f. is_live s x && f) e ∙ neither (is_live s x))

waits_on : (c m : ℕ) → m ≢ 0 → free (HasBegun c m) ≡ false
waits_on c zero some = absurd (some refl)
waits_on c (suc m) some = refl

pub waits_taken : (s : Stand) (c m : ℕ) → s ≡ HasBegun c m → m ≢ 0 → free s ≡ false
waits_taken s c m e some = ap free e ∙ waits_on c m some

pub begun_free : (s : Stand) (c d m : ℕ) → s ≡ HasBegun d m → client_at s ≡ Some c → m ≡ 0 → s ≡ HasBegun c 0
begun_free s c d m e client none = e ∙ ap (λ i. HasBegun i m) (same (sym (ap client_at e) ∙ client)) ∙ ap (HasBegun c) none
  where
    same : Some d ≡ Some c → d ≡ c
    same q = cc

module _ {P : Type 0} where
  -- what is no transaction is not free
  pub other_taken : (r : Row P) → ((c : ℕ) (t : Standing P) (m : ℕ) → r ≡ row.Begun c t m → ⊥) → free (stand_of r) ≡ false
  other_taken row.Plain h = refl
  other_taken (row.Client c) h = refl
  other_taken (row.Asking c b call) h = refl
  other_taken (row.Begun c t m) h = absurd (h c t m refl)
  other_taken (row.Calling c x b) h = refl
  other_taken (row.Past c) h = refl
  other_taken (row.Working c job) h = refl

  -- the newest line is there, where there is one
  pub newest_is : (s : Clients P) (line : ℕ) → 1 ≤ line_count (sight_of s) → line ≡ line_count (sight_of s) → IsLine (sight_of s).stands line
  newest_is s line one e = record { first = omega (arith, one, e); last = omega (arith, e) }

  pub newest_idle : (s : Clients P) (line : ℕ) → line ≡ line_count (sight_of s) → stand_at (sight_of s).stands (line_count (sight_of s)) ≡ Idle → stand_at (sight_of s).stands line ≡ Idle
  newest_idle s line e idle = ap (stand_at (sight_of s).stands) e ∙ idle

  -- One line more

  pub opened_rows : (s t : Clients P) (p : Place P) → t.places.items ≡ s.places.items ++ p ∷ [] → rows_of t ≡ rows_of s ++ p.row ∷ []
  opened_rows s t p e = ap (map (λ (q : Place P). q.row)) e ∙ map-append (λ (q : Place P). q.row) s.places.items (p ∷ [])

  -- A client is made, or is gone

  pub connected_sight : (s t : Clients P) (line client : ℕ) → line ≡ line_count (sight_of s) → client ≡ length (crashed_of s) → crashed_of t ≡ crashed_of s ++ false ∷ [] → groups_of t ≡ groups_of s ++ None ∷ [] → rows_of t ≡ set (rows_of s) (line - 1) (row.Client client) → nexts_of t ≡ nexts_of s
      → sight_of t ≡ connected (sight_of s)
  connected_sight s t line client at new crashed groups rows nexts =
      sight_by (crashed_of t) (crashed_of s ++ false ∷ []) (groups_of t) (groups_of s ++ None ∷ []) (stands_of (rows_of t)) (set (stands_of (rows_of s)) (line_count (sight_of s) - 1) (IsClient (length (crashed_of s)))) (nexts_of t) (nexts_of s) crashed groups stands nexts
    where
      stands : stands_of (rows_of t) ≡ set (stands_of (rows_of s)) (line_count (sight_of s) - 1) (IsClient (length (crashed_of s)))
      stands = ap stands_of rows ∙ stands_set (rows_of s) (line - 1) (row.Client client) ∙ ap (λ n. set (stands_of (rows_of s)) (n - 1) (IsClient client)) at ∙ ap (λ n. set (stands_of (rows_of s)) (line_count (sight_of s) - 1) (IsClient n)) new

  pub pushed_crashed : (s t : Clients P) (c : ClientState) → t.clients.items ≡ s.clients.items ++ c ∷ [] → c.crashed ≡ false → crashed_of t ≡ crashed_of s ++ false ∷ []
  pushed_crashed s t c e new = ap (map (λ (d : ClientState). d.crashed)) e ∙ map-append (λ (d : ClientState). d.crashed) s.clients.items (c ∷ []) ∙ ap (λ b. crashed_of s ++ b ∷ []) new

  pub pushed_groups : (s t : Clients P) (c : ClientState) → t.clients.items ≡ s.clients.items ++ c ∷ [] → c.group ≡ None → groups_of t ≡ groups_of s ++ None ∷ []
  pushed_groups s t c e new = ap (map group_of) e ∙ map-append group_of s.clients.items (c ∷ []) ∙ ap (λ g. groups_of s ++ group_by g (lines_out c) ∷ []) new

  pub crashed_put : (s : Clients P) (i : ℕ) (c : ClientState) → map (λ (d : ClientState). d.crashed) (set s.clients.items i c) ≡ set (crashed_of s) i c.crashed
  crashed_put s i c = map-set (λ (d : ClientState). d.crashed) s.clients.items i c

  pub crashed_sight : (s t : Clients P) (line client : ℕ) → client_at (stand_at (sight_of s).stands line) ≡ Some client → crashed_of t ≡ set (crashed_of s) client true → groups_of t ≡ groups_of s → rows_of t ≡ rows_of s → nexts_of t ≡ nexts_of s → sight_of t ≡ crash line (sight_of s)
  crashed_sight s t line client e crashed groups rows nexts =
      sight_by (crashed_of t) (set (crashed_of s) client true) (groups_of t) (groups_of s) (stands_of (rows_of t)) (stands_of (rows_of s)) (nexts_of t) (nexts_of s) crashed groups (ap stands_of rows) nexts ∙ sym (crash_there (sight_of s) line client e)

  -- A call begins

  pub asked_sight : (s t : Clients P) (line c : ℕ) (b : Bool) (call : ClientCall Pd P) → rows_of t ≡ set (rows_of s) (line - 1) (row.Asking c b call) → nexts_of t ≡ nexts_of s → t.clients ≡ s.clients → sight_of t ≡ with_stand line (Asking c b) (sight_of s)
  asked_sight s t line c b call rows nexts clients =
      sight_at s t (set (stands_of (rows_of s)) (line - 1) (Asking c b)) (nexts_of s) clients (ap stands_of rows ∙ stands_set (rows_of s) (line - 1) (row.Asking c b call)) nexts

  pub asked_listens_now : (s t : Clients P) (line c : ℕ) (b : Bool) → IsLine (sight_of s).stands line → get_or (crashed_of s) c true ≡ false → sight_of t ≡ with_stand line (Asking c b) (sight_of s) → Listens (sight_of t) line (line - 1) c
  asked_listens_now s t line c b is there e = subst (λ v. Listens v line (line - 1) c) (sym e) (asked_listens (sight_of s) line c b is there)

  pub called_listens_now : (s t : Clients P) (line x c : ℕ) (b : Bool) → IsLine (sight_of s).stands line → stand_at (sight_of s).stands line ≡ Idle → stand_at (sight_of s).stands x ≡ HasBegun c 0 → get_or (crashed_of s) c true ≡ false
      → sight_of t ≡ with_stand line (Calling c x b) (with_stand x (HasBegun c line) (sight_of s)) → Listens (sight_of t) line (x - 1) c
  called_listens_now s t line x c b is idle free there e = subst (λ v. Listens v line (x - 1) c) (sym e) (called_listens (sight_of s) line x c b is idle free there)

  pub called_sight : (s t : Clients P) (line x c : ℕ) (b : Bool) → stand_at (sight_of s).stands x ≡ HasBegun c 0 → rows_of t ≡ set (set (rows_of s) (x - 1) (with_waits line (row_at (rows_of s) (x - 1)))) (line - 1) (row.Calling c x b) → nexts_of t ≡ nexts_of s → t.clients ≡ s.clients
      → sight_of t ≡ with_stand line (Calling c x b) (with_stand x (HasBegun c line) (sight_of s))
  called_sight s t line x c b free rows nexts clients =
      sight_at s t (set (set (stands_of (rows_of s)) (x - 1) (HasBegun c line)) (line - 1) (Calling c x b)) (nexts_of s) clients
      (ap stands_of rows ∙ called_stands (rows_of s) line x c 0 (row.Calling c x b) (begun_line (stands_of (rows_of s)) x c 0 free) free) nexts

  module _ (w : Ways P) where
    pub opened_ready : (rows news : List (Row P)) (p : Place P) → p ≡ record { row = row.Plain; next = 1; next_ask = 1 } → news ≡ rows ++ p.row ∷ [] → AreReady w rows → AreReady w news
    opened_ready rows news p e so ready = subst (AreReady w) (sym (so ∙ ap (λ (q : Place P). rows ++ q.row ∷ []) e)) (record {
      each = All-append (RowReady w) rows (row.Plain ∷ []) ready.each (All-cons (RowReady w) row.Plain [] tt (All-nil (RowReady w)));
      matched = subst AreMatched (sym (map-append stand_of rows (row.Plain ∷ []))) (matched_opened (stands_of rows) ready.matched);
    })

    -- where nothing stands, what waits for nobody may stand
    pub ready_new : (rows : List (Row P)) (line : ℕ) (r : Row P) → IsLine (stands_of rows) line → stand_at (stands_of rows) line ≡ Idle → AreReady w rows → RowReady w r → ((c m : ℕ) → stand_of r ≢ HasBegun c m) → AreReady w (set rows (line - 1) r)
    ready_new rows line r is idle ready may waits = ready_set w rows line r is ready may (λ c x b e. no c x b (sym idle ∙ e)) (λ c m e. absurd (waits c m e))
      where
        no : (c x : ℕ) (b : Bool) → Idle ≡ Calling c x b → ⊥
        no c x b q = cc

    pub connected_ready : (rows news : List (Row P)) (line client : ℕ) → IsLine (stands_of rows) line → stand_at (stands_of rows) line ≡ Idle → AreReady w rows → news ≡ set rows (line - 1) (row.Client client) → AreReady w news
    connected_ready rows news line client is idle ready e = subst (AreReady w) (sym e) (ready_new rows line (row.Client client) is idle ready tt no)
      where
        no : (c m : ℕ) → IsClient client ≢ HasBegun c m
        no c m q = cc

    pub asking_ready : (rows news : List (Row P)) (line c : ℕ) (b : Bool) (call : ClientCall Pd P) → IsLine (stands_of rows) line → stand_at (stands_of rows) line ≡ Idle → AreReady w rows → CallReady call.stage → WantsNew call → news ≡ set rows (line - 1) (row.Asking c b call) → AreReady w news
    asking_ready rows news line c b call is idle ready may wants e = subst (AreReady w) (sym e) (ready_new rows line (row.Asking c b call) is idle ready (may, wants) no)
      where
        no : (d m : ℕ) → Asking c b ≢ HasBegun d m
        no d m q = cc

    pub calling_ready : (rows news : List (Row P)) (line x c : ℕ) (b : Bool) → IsLine (stands_of rows) line → stand_at (stands_of rows) line ≡ Idle → stand_at (stands_of rows) x ≡ HasBegun c 0 → AreReady w rows
        → news ≡ set (set rows (x - 1) (with_waits line (row_at rows (x - 1)))) (line - 1) (row.Calling c x b) → AreReady w news
    calling_ready rows news line x c b is idle free ready e = subst (AreReady w) (sym e) (ready_called w rows line x c b is (begun_line (stands_of rows) x c 0 free) idle free ready)

    -- a transaction that waits for a new call may be asked for something
    pub act_hears : (rows news : List (Row P)) (line x c : ℕ) (b : Bool) (act : Act) → IsLine (stands_of rows) line → stand_at (stands_of rows) line ≡ Idle → stand_at (stands_of rows) x ≡ HasBegun c 0 → AreReady w rows
        → news ≡ set (set rows (x - 1) (with_waits line (row_at rows (x - 1)))) (line - 1) (row.Calling c x b) → MayHear (tells.Act act) (row_at news (x - 1))
    act_hears rows news line x c b act is idle free ready e = subst (MayHear (tells.Act act)) (sym (ap (λ rs. row_at rs (x - 1)) e ∙ same)) (hears (row_at rows (x - 1)) (sym (stand_of_line rows x begun.first) ∙ free) (ready.each (x - 1) row.Plain within_rows))
      where
        begun : IsLine (stands_of rows) x
        begun = begun_line (stands_of rows) x c 0 free

        count : length (stands_of rows) ≡ length rows
        count = length-map rows stand_of

        within_rows : x - 1 < length rows
        within_rows = let first = begun.first in let last = begun.last in let long = count in omega (arith, first, last, long)

        far : x ≢ line
        far e = no (sym idle ∙ ap (stand_at (stands_of rows)) (sym e) ∙ free)
          where
            no : Idle ≡ HasBegun c 0 → ⊥
            no q = cc

        apart : x - 1 ≢ line - 1
        apart e = far (let one = begun.first in let two = is.first in omega (arith, one, two, e))

        same : row_at (set (set rows (x - 1) (with_waits line (row_at rows (x - 1)))) (line - 1) (row.Calling c x b)) (x - 1) ≡ with_waits line (row_at rows (x - 1))
        same = or_other (set rows (x - 1) (with_waits line (row_at rows (x - 1)))) (line - 1) (x - 1) (row.Calling c x b) row.Plain apart ∙ or_same rows (x - 1) (with_waits line (row_at rows (x - 1))) row.Plain within_rows

        hears : (r : Row P) → stand_of r ≡ HasBegun c 0 → RowReady w r → MayHear (tells.Act act) (with_waits line r)
        hears row.Plain e may = tt
        hears (row.Client d) e may = tt
        hears (row.Asking d a call) e may = tt
        hears (row.Begun d t m) e may = ((λ z. let one = is.first in omega (arith, one, z)), may.1 (waits e))
          where
            waits : HasBegun d m ≡ HasBegun c 0 → m ≡ 0
            waits q = cc
        hears (row.Calling d y a) e may = tt
        hears (row.Past d) e may = tt
        hears (row.Working d job) e may = tt

  -- the call stands at its line
  pub called_stand : (rows mid : List (Row P)) (line x c : ℕ) (b : Bool) → IsLine (stands_of rows) line → mid ≡ set (set rows (x - 1) (with_waits line (row_at rows (x - 1)))) (line - 1) (row.Calling c x b) → stand_at (stands_of mid) line ≡ Calling c x b
  called_stand rows mid line x c b is e =
      ap (λ (rs : List (Row P)). stand_at (stands_of rs) line) e ∙ ap (λ ss. stand_at ss line) (stands_set first (line - 1) (row.Calling c x b))
      ∙ stand_same (stands_of first) line (Calling c x b) (record { first = is.first; last = subst (λ n. line ≤ n) (sym long) is.last })
    where
      first : List (Row P)
      first = set rows (x - 1) (with_waits line (row_at rows (x - 1)))

      long : length (stands_of first) ≡ length (stands_of rows)
      long = length-map first stand_of ∙ length-set rows (x - 1) (with_waits line (row_at rows (x - 1))) ∙ sym (length-map rows stand_of)
