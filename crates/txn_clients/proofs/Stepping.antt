-- Whole steps of clients: what is waited for then.
use Rattle.std.proofs.Common.{◌≡◌, ◌≢◌, ◌⊎◌, inl, inr, ℕ, zero, suc, List, [], ◌∷◌, map, get_or, Option, Some, None, refl, sym, ap, ◌∙◌, subst}
use Rattle.std.proofs.Common.{◌++◌}
use Rattle.std.proofs.lemmas.List.Elements.{All-nil}
use Rattle.std.specs.List.{All, Any}
use Rattle.txn_side.specs.Trace.{EndsFor, Trace, with_posted}
use Rattle.txn_side.specs.declared.turn.Ending.{Ending}
use Rattle.txn_clients.specs.Failing.{EndsMore, FailsFor, HasReason, posting_in}
use Rattle.txn_clients.specs.Resting.{RestsIn}
use Rattle.txn_clients.proofs.Showing.{ends_then}
use Rattle.txn_clients.proofs.Sounding.{no_more}
use Rattle.txn_history.specs.Phase.{Awaited}
use Rattle.txn_commit.specs.Ways.{Ways}
use Rattle.txn_kv.specs.declared.ticket.Ticket.{Ticket}
use Rattle.txn_side.specs.Sight.{Group, GroupsGo, IsAsk, IsOut}
use Rattle.txn_side.specs.Waiting.{WaitsOn}
use Rattle.txn_side.specs.Waiting as side
use Rattle.txn_side.specs.Waiting.Awaited.{EndOf as SideEnd, ReplyTo as SideReply}
use Rattle.txn_side.specs.declared.turn.Posting.{Posting}
use Rattle.txn_tso.specs.Oracle.{Answer, group_or_none}
use Rattle.txn_clients.specs.Clients.{AreReady, rows_of, sight_of}
use Rattle.txn_clients.specs.Groups.{group_by, group_of, lines_in}
use Rattle.txn_clients.specs.Waiting.{AreRunning, Book, EndsGroup, GoesOn, GroupsBeside, IsMet, IsQuiet, IsReady, IsSound, Keeps, SendsOn, Steps, Takes, Wants, blank, book_at, book_of, kind, waits_of}
use Rattle.txn_clients.specs.declared.client_state.ClientState.{ClientState}
use Rattle.txn_clients.specs.declared.clients.Clients.{Clients}
use Rattle.txn_clients.proofs.Settling.{met_more}
use Rattle.txn_clients.proofs.Stands.{same_line}

-- what is out is what the books of clients say
pub group_there : (cs : List ClientState) (c : ℕ) → get_or (map group_of cs) c None ≡ group_by (get_or (map book_of cs) c blank).ticket (lines_in (group_or_none (get_or (map book_of cs) c blank).out))
group_there [] c = refl
group_there (x ∷ xs) zero = refl
group_there (x ∷ xs) (suc c) = group_there xs c

none_out : (t : Option Ticket) (lines : List ℕ) (g : Group) → t ≡ None → group_by t lines ≡ Some g → ⊥
none_out t lines g e h = two (sym (ap (λ u. group_by u lines) e) ∙ h)
  where
    two : None ≡ Some g → ⊥
    two q = cc

-- all that ended in a step, before the next group went out
all_ends : {P : Type 0} (w : Ways P) (trace : Option Trace) (qs rs : List Posting) (es fs gs : List Ending) → es ≡ [] → gs ≡ fs → Keeps qs rs → EndsMore w (posting_in qs trace) es fs → All (HasReason w (posting_in rs trace)) gs
all_ends w trace qs rs es fs gs none unended keeps m =
    let all = ends_then w trace qs rs es fs fs keeps m (no_more w (posting_in rs trace) fs) in
    subst (All (HasReason w (posting_in rs trace))) (sym (unended ∙ all.ended ∙ ap (λ xs. xs ++ all.more) none)) all.each

module _ {P : Type 0} (w : Ways P) where
  -- the same is out where books are the same
  out_same : (s t : Clients P) (c : ℕ) → book_at t c ≡ book_at s c → get_or (sight_of t).groups c None ≡ get_or (sight_of s).groups c None
  out_same s t c e = group_there t.clients.items c ∙ ap (λ (b : Book). group_by b.ticket (lines_in (group_or_none b.out))) e ∙ sym (group_there s.clients.items c)

  -- a part, and then the group that goes out
  pub whole_steps : (trace : Option Trace) (s m t : Clients P) (client : ℕ) (Heard : ℕ → Awaited → Type 0) (ps qs rs : List Posting) (es fs gs : List Ending) → es ≡ [] → gs ≡ fs → GoesOn w trace client Heard [] ps qs es fs s m → SendsOn w trace client [] qs rs m t → rows_of t ≡ rows_of m → AreRunning (rows_of m) → ((c : ℕ) → c ≢ client → IsQuiet (book_at s c))
      → Steps w trace Heard rs gs s t
  whole_steps trace s m t client Heard ps qs rs es fs gs none unended g h rows running quiet = record {
    sound = h.sound;
    ends = all_ends w trace qs rs es fs gs none unended h.posted g.ends;
    running = subst AreRunning (sym rows) running;
    quiet = λ c. by c (same_line client c);
    lines = λ n a x. elim (g.lines n a (subst (λ rs. Wants w rs n a) rows x)) [ inl y ↦ inl y | inr y ↦ inr (met_more w qs rs n a h.posted y) ];
  }
    where
      by : (c : ℕ) → (c ≡ client) ⊎ (c ≢ client) → IsQuiet (book_at t c)
      by c (inl e) = subst (λ i. IsQuiet (book_at t i)) (sym e) h.quiet
      by c (inr apart) = subst IsQuiet (sym (h.books c apart ∙ g.books c apart)) (quiet c apart)

  -- a request that is over, and then the next
  pub group_steps : (trace : Option Trace) (s m t : Clients P) (client : ℕ) (ps qs rs : List Posting) (es fs gs : List Ending) → es ≡ [] → gs ≡ fs → EndsGroup w trace client ps qs es fs s m → SendsOn w trace client [] qs rs m t → rows_of t ≡ rows_of m → AreRunning (rows_of m) → ((c : ℕ) → IsQuiet (book_at s c)) → Steps w trace (λ n a. ⊥) rs gs s t
  group_steps trace s m t client ps qs rs es fs gs none unended g h rows running quiet = record {
    sound = h.sound;
    ends = all_ends w trace qs rs es fs gs none unended h.posted g.ends;
    running = subst AreRunning (sym rows) running;
    quiet = λ c. by c (same_line client c);
    lines = λ n a x. elim (g.lines n a (subst (λ rs. Wants w rs n a) rows x)) [ inl y ↦ inl (y, λ z. z) | inr y ↦ inr (met_more w qs rs n a h.posted y) ];
  }
    where
      by : (c : ℕ) → (c ≡ client) ⊎ (c ≢ client) → IsQuiet (book_at t c)
      by c (inl e) = subst (λ i. IsQuiet (book_at t i)) (sym e) h.quiet
      by c (inr apart) = subst IsQuiet (sym (h.books c apart ∙ g.books c apart)) (quiet c)

  -- what is out then is of another client, or was posted
  pub groups_beside : (trace : Option Trace) (s m t : Clients P) (client : ℕ) (ps qs rs : List Posting) (es fs : List Ending) → EndsGroup w trace client ps qs es fs s m → GroupsGo rs (sight_of m) (sight_of t) → GroupsBeside client rs (sight_of s) (sight_of t)
  groups_beside trace s m t client ps qs rs es fs g gone group out = elim (gone group out) [ inl (c, e) ↦ inl (by c e (same_line client c)) | inr a ↦ inr a ]
    where
      by : (c : ℕ) → get_or (sight_of m).groups c None ≡ Some group → (c ≡ client) ⊎ (c ≢ client) → (d : ℕ) × (d ≢ client) × (get_or (sight_of s).groups d None ≡ Some group)
      by c e (inl same) = absurd (none_out (book_at m client).ticket _ group g.ticket (sym (group_there m.clients.items client) ∙ ap (λ i. get_or (sight_of m).groups i None) (sym same) ∙ e))
      by c e (inr apart) = (c, apart, sym (out_same s m c (g.books c apart)) ∙ e)

  pub group_ends : (trace : Option Trace) (s m t : Clients P) (client : ℕ) (given : List Answer) (ps qs : List Posting) (es fs : List Ending) → Takes client given s m → rows_of m ≡ rows_of s → GoesOn w trace client (λ n a. ⊥) [] ps qs es fs m t → EndsGroup w trace client ps qs es fs s t
  group_ends trace s m t client given ps qs es fs takes rows g = record {
    sound = g.sound;
    ends = g.ends;
    posted = g.posted;
    lines = λ n a x. elim (g.lines n a x) [ inl y ↦ inl (subst (λ rs. Wants w rs n a) rows y.0) | inr y ↦ inr y ];
    ticket = g.tickets client ∙ ap (λ (b : Book). b.ticket) takes.book;
    books = λ c apart. g.books c apart ∙ takes.books c apart;
  }

  -- a step that began with another row
  pub steps_from : (trace : Option Trace) (first s t : Clients P) (Heard : ℕ → Awaited → Type 0) (ps : List Posting) (es : List Ending) → ((n : ℕ) (a : Awaited) → Wants w (rows_of s) n a → Wants w (rows_of first) n a) → Steps w trace Heard ps es s t → Steps w trace (λ n a. ⊥) ps es first t
  steps_from trace first s t Heard ps es fewer g = record {
    sound = g.sound;
    ends = g.ends;
    running = g.running;
    quiet = g.quiet;
    lines = λ n a x. elim (g.lines n a x) [ inl y ↦ inl (fewer n a y.0, λ z. z) | inr y ↦ inr y ];
  }

  pub ready_of : (s t : Clients P) (Heard : ℕ → Awaited → Type 0) (ps : List Posting) (es : List Ending) → IsReady w s → AreReady w (rows_of t) → Steps w None Heard ps es s t → IsReady w t
  ready_of s t Heard ps es old rows g = record { lawful = old.lawful; rows = rows; sound = g.sound; running = g.running; quiet = g.quiet }

  -- As the machine sees it.

  pub met_as : (posted : List Posting) (n : ℕ) (a : side.Awaited) → IsMet posted n (kind a) → side.IsPosted posted n a
  met_as posted n (SideReply k) h = h
  met_as posted n (SideEnd k) h = h

  pub waits_on : (s t : Clients P) (Heard : ℕ → Awaited → Type 0) (Hears : ℕ → side.Awaited → Type 0) (ps : List Posting) (es : List Ending) → Steps w None Heard ps es s t → ((n : ℕ) (a : side.Awaited) → Hears n a → Heard n (kind a))
      → ((g : Group) → IsOut (sight_of t) g → (IsOut (sight_of s) g × (Hears g.ticket.line (SideReply g.ticket.number) → ⊥)) ⊎ Any (IsAsk g) ps) → WaitsOn Hears ps (waits_of w s) (waits_of w t) (sight_of s) (sight_of t)
  waits_on s t Heard Hears ps es g f groups = record {
    lines = λ n a x. elim (g.lines n (kind a) x) [ inl y ↦ inl (y.0, λ h. y.1 (f n a h)) | inr y ↦ inr (met_as ps n a y) ];
    groups = groups;
  }

  -- As a trace shows it.

  with_none : (t : Trace) → t.posted ≡ [] → with_posted [] t ≡ t
  with_none t e = ap (λ ps. with_posted ps t) (sym e)

  -- what the calls rested on before a step
  pub rested : (s : Clients P) (t : Trace) → t.posted ≡ [] → RestsIn w s t → IsSound w (posting_in [] (Some t)) [] s
  rested s t e r = subst (λ u. IsSound w (Some u) [] s) (sym (with_none t e)) r

  pub rests_on : (t : Trace) (s u : Clients P) (Heard : ℕ → Awaited → Type 0) (ps : List Posting) (es : List Ending) → Steps w (Some t) Heard ps es s u → RestsIn w u (with_posted ps t) × All (EndsFor (FailsFor w) (with_posted ps t)) es
  rests_on t s u Heard ps es g = (g.sound, g.ends)

  -- nothing was posted, and nothing ended
  pub rests_still : (t : Trace) (s u : Clients P) → t.posted ≡ [] → RestsIn w u t → RestsIn w u (with_posted [] t) × All (EndsFor (FailsFor w) (with_posted [] t)) []
  rests_still t s u e r = (subst (RestsIn w u) (sym (with_none t e)) r, All-nil (EndsFor (FailsFor w) (with_posted [] t)))

  -- so it is where a turn is new
  pub rests_quiet : (t : Trace) (s : Clients P) (ps : List Posting) (es : List Ending) → ps ≡ [] → es ≡ [] → t.posted ≡ [] → RestsIn w s t → RestsIn w s (with_posted ps t) × All (EndsFor (FailsFor w) (with_posted ps t)) es
  rests_quiet t s ps es none unended e r =
      subst (λ qs. RestsIn w s (with_posted qs t) × All (EndsFor (FailsFor w) (with_posted qs t)) es) (sym none)
      (subst (λ fs. RestsIn w s (with_posted [] t) × All (EndsFor (FailsFor w) (with_posted [] t)) fs) (sym unended) (rests_still t s s e r))
