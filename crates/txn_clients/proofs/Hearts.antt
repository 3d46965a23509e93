-- Clients that lend a heartbeat their placement client stay as they were.
use Rattle.std.proofs.Common.{◌≡◌, ◌⊎◌, inl, ℕ, [], map, Option, Some, None, sym, ap, ◌∙◌, subst}
use Rattle.txn_history.specs.Meaning.{IsLawful}
use Rattle.txn_commit.specs.Ways.{Ways}
use Rattle.txn_heartbeat.specs.Hosting.{StaysSo}
use Rattle.txn_side.specs.Sight.{next_at}
use Rattle.txn_side.specs.Trace.{Trace}
use Rattle.txn_clients.specs.Accounts.{account_at}
use Rattle.txn_clients.specs.Arising.{ArisenFrom, HoldsAt}
use Rattle.txn_clients.specs.Clients.{AreReady, crashed_of, groups_of, nexts_of, rows_of, sight_of, stands_of}
use Rattle.txn_clients.specs.Resting.{RestsIn}
use Rattle.txn_clients.specs.Waiting.{AreRunning, Book, HasAsk, IsAskedIn, IsPaired, IsQuiet, IsReady, IsSound, Wants, asks_of, book_at, kind, waits_of}
use Rattle.txn_clients.specs.declared.clients.Clients.{Clients}
use Rattle.txn_clients.specs.declared.place.Place.{Place}
use Rattle.txn_clients.proofs.Grouping.{grown_sound}
use Rattle.txn_clients.proofs.Sounding.{le_of}
use Rattle.txn_clients.proofs.Tables.{sight_by}
use Rattle.txn_clients.proofs.Unmoved.{crashed_arises}

module _ {P : Type 0} (w : Ways P) (p : IsLawful w.plan) where
  rows_lent : (s t : Clients P) → t.places ≡ s.places → rows_of t ≡ rows_of s
  rows_lent s t places = ap (λ v. map (λ (x : Place P). x.row) v.items) places

  nexts_lent : (s t : Clients P) → t.places ≡ s.places → nexts_of t ≡ nexts_of s
  nexts_lent s t places = ap (λ v. map (λ (x : Place P). x.next) v.items) places

  asks_lent : (s t : Clients P) → t.places ≡ s.places → asks_of t ≡ asks_of s
  asks_lent s t places = ap (λ v. map (λ (x : Place P). x.next_ask) v.items) places

  lent_sound : (trace : Option Trace) (s t : Clients P) → t.places ≡ s.places → crashed_of t ≡ crashed_of s → ((c : ℕ) → book_at t c ≡ book_at s c) → IsSound w trace [] s → IsSound w trace [] t
  lent_sound trace s t places crashed books sound =
      grown_sound w p trace s t [] [] (rows_lent s t places) crashed (λ n. le_of _ _ (ap (λ ns. next_at ns n) (sym (nexts_lent s t places)))) (asks_lent s t places)
      (λ c n i h. subst (λ b. IsAskedIn b n i ⊎ HasAsk [] n i) (sym (books c)) h)
      (λ c. subst IsPaired (sym (books c)) (sound.paired c))
      (λ c u e. sound.owned c u (ap (λ (b : Book). b.ticket) (sym (books c)) ∙ e))
      (λ c u e. inl (ap (λ (b : Book). b.ticket) (sym (books c)) ∙ e)) sound

  pub lent_stays : (s t : Clients P) → t.places ≡ s.places → crashed_of t ≡ crashed_of s → groups_of t ≡ groups_of s → ((c : ℕ) → book_at t c ≡ book_at s c)
      → StaysSo sight_of (waits_of w) (λ (c : Clients P). account_at (rows_of c)) (RestsIn w) (ArisenFrom w) (λ (c : Clients P) h x o. HoldsAt (rows_of c) h x o) s t
  lent_stays s t places crashed groups books = record {
    sight_is = sight_by (crashed_of t) (crashed_of s) (groups_of t) (groups_of s) (stands_of (rows_of t)) (stands_of (rows_of s)) (nexts_of t) (nexts_of s) crashed groups (ap stands_of (rows_lent s t places)) (nexts_lent s t places);
    waits_so = λ n a x. subst (λ rs. Wants w rs n (kind a)) (rows_lent s t places) x;
    accounts = λ n. ap (λ rs. account_at rs n) (rows_lent s t places);
    rests_so = λ trace was. lent_sound (Some trace) s t places crashed books was;
    arises_so = crashed_arises w p s t places books;
  }

  pub lent_ready : (s t : Clients P) → t.places ≡ s.places → crashed_of t ≡ crashed_of s → ((c : ℕ) → book_at t c ≡ book_at s c) → IsReady w s → IsReady w t
  lent_ready s t places crashed books old = record {
    lawful = p;
    rows = subst (AreReady w) (sym (rows_lent s t places)) old.rows;
    sound = lent_sound None s t places crashed books old.sound;
    running = subst AreRunning (sym (rows_lent s t places)) old.running;
    quiet = λ c. subst IsQuiet (sym (books c)) (old.quiet c);
  }
