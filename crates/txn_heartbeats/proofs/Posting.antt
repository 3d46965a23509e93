-- What an outbox of a heartbeat holds is posted.
use Rattle.std.proofs.Common.{◌≡◌, ◌⊎◌, inl, inr, ℕ, ◌+◌, ◌-◌, true, List, [], ◌∷◌, ◌++◌, set, refl, sym, ap, ◌∙◌, subst}
use Rattle.std.proofs.lemmas.List.{set-set}
use Rattle.std.proofs.lemmas.List.Elements.{All-head, All-tail}
use Rattle.std.specs.List.{All}
use Rattle.txn_core.specs.declared.heartbeat.Heartbeat.{Heartbeat}
use Rattle.txn_heartbeat.specs.Beats.{Beats, IsBeatOf, IsErrandOf, IsLookUp}
use Rattle.txn_history.specs.Plan.{Key}
use Rattle.txn_history.specs.Posted.{AreNumbered, Errand, Posted}
use Rattle.txn_kv.specs.Timestamp.{version_of}
use Rattle.txn_kv.specs.declared.outbox.Errand.TheVariants as errands
use Rattle.txn_kv.specs.declared.request.Request.{Request}
use Rattle.txn_kv.specs.declared.request.Request.TheVariants as requests
use Rattle.txn_side.specs.Arising.{IsBeat}
use Rattle.txn_side.specs.Sight.{next_at, with_next}
use Rattle.txn_side.specs.declared.turn.Posting.{Posting}
use Rattle.txn_heartbeats.specs.Beating.{AreBeats, AreTimeless, IsLine, PostsBeats, beat_ticket, postings_of}
use Rattle.txn_heartbeats.specs.Hearts.{outbox_at}
use Rattle.txn_heartbeats.proofs.Lists.{line_set, next_set, set_next_same}
use Rattle.txn_heartbeats.proofs.Living.{timeless_ask}

-- what a heartbeat sends

beat_sent : (primary : Key) (start : ℕ) (r : Request) → IsBeatOf primary start r → IsBeat r
beat_sent primary start (requests.TxnHeartBeat q) b = tt
beat_sent primary start r b = absurd b

look_sent : (r : Request) → IsLookUp r → IsBeat r
look_sent (requests.GetRegion q) b = tt
look_sent (requests.GetRegionById q) b = tt
look_sent (requests.GetStore q) b = tt
look_sent (requests.GetAllStores q) b = tt
look_sent (requests.Members q) b = tt
look_sent r b = absurd b

sent_so : (heart : Heartbeat) (r : Request) → IsBeatOf heart.primary (version_of heart.start) r ⊎ IsLookUp r → IsBeat r
sent_so heart r s = elim s [ inl b ↦ beat_sent heart.primary (version_of heart.start) r b | inr l ↦ look_sent r l ]

-- all of it, in order

beats_numbered : (heart : Heartbeat) (line : ℕ) (from : List ℕ) (first ask : ℕ) (es : List Errand) (next next_ask : ℕ) → IsLine from line → next_at from line ≡ first → AreNumbered first ask es next next_ask → AreTimeless es → All (IsErrandOf heart) es
    → AreBeats line from (postings_of line es) (set from (line - 1) next)
beats_numbered heart line from first ask [] next next_ask own at n t all = ap (set from (line - 1)) (n.0 ∙ sym at) ∙ set_next_same from line own.first
beats_numbered heart line from first ask (errands.Send k to r ∷ es) next next_ask own at n t all = (
  record { own = own; ticket = ap (beat_ticket line) (n.0 ∙ sym at); beats = (sent_so heart r (All-head (IsErrandOf heart) (errands.Send k to r) es all), refl) },
  subst (AreBeats line (with_next from line) (postings_of line es)) (set-set from (line - 1) (next_at from line + 1) next)
      (beats_numbered heart line (with_next from line) (first + 1) ask es next next_ask (line_set from (line - 1) (next_at from line + 1) line own) (next_set from line (next_at from line + 1) own ∙ ap (λ k. k + 1) at) n.1 t (All-tail (IsErrandOf heart) (errands.Send k to r) es all)),
)
beats_numbered heart line from first ask (errands.Sleep k ms ∷ es) next next_ask own at n t all = (
  record { own = own; ticket = ap (beat_ticket line) (n.0 ∙ sym at); beats = tt },
  subst (AreBeats line (with_next from line) (postings_of line es)) (set-set from (line - 1) (next_at from line + 1) next)
      (beats_numbered heart line (with_next from line) (first + 1) ask es next next_ask (line_set from (line - 1) (next_at from line + 1) line own) (next_set from line (next_at from line + 1) own ∙ ap (λ k. k + 1) at) n.1 t (All-tail (IsErrandOf heart) (errands.Sleep k ms) es all)),
)
beats_numbered heart line from first ask (errands.Ask k ∷ es) next next_ask own at n t all = absurd t

-- what a job makes of an empty outbox
pub record Holds (line : ℕ) (from : List ℕ) (p : Posted) : Type 0 where
  pub beats : AreBeats line from (postings_of line p.sends) (set from (line - 1) p.next)
  pub line_is : p.line ≡ line
  pub beat : p.beat ≡ true
  pub ask : p.next_ask ≡ 1

holds_from : (heart : Heartbeat) (line : ℕ) (from : List ℕ) (p : Posted) → IsLine from line → Beats heart (outbox_at line (next_at from line)) p → AreTimeless p.sends → Holds line from p
holds_from heart line from p own b timeless =
    let timeless_so = subst AreTimeless b.pushed timeless in
    record {
      beats = subst (λ es. AreBeats line from (postings_of line es) (set from (line - 1) p.next)) (sym b.pushed) (beats_numbered heart line from (next_at from line) 1 b.sends p.next p.next_ask own refl b.numbered timeless_so b.each);
      line_is = b.line;
      beat = b.beat_is;
      ask = timeless_ask (next_at from line) 1 b.sends p.next p.next_ask b.numbered timeless_so;
    }

pub holds_so : (heart : Heartbeat) (line : ℕ) (from : List ℕ) (o p : Posted) → IsLine from line → o ≡ outbox_at line (next_at from line) → Beats heart o p → AreTimeless p.sends → Holds line from p
holds_so heart line from o p own e b timeless = holds_from heart line from p own (subst (λ (x : Posted). Beats heart x p) e b) timeless

-- what is left of it, as it is handed out

-- what is posted so

pub posts_so : (line : ℕ) (from to : List ℕ) (ps qs : List Posting) (p : Posted) → Holds line from p → qs ≡ ps ++ postings_of line p.sends → to ≡ set from (line - 1) p.next → PostsBeats line from ps qs to
posts_so line from to ps qs p h pushed e = record { posted = postings_of line p.sends; pushed = pushed; beats = subst (AreBeats line from (postings_of line p.sends)) (sym e) h.beats }

pub posts_all : (line : ℕ) (from to : List ℕ) (ps qs : List Posting) → ps ≡ [] → PostsBeats line from ps qs to → AreBeats line from qs to
posts_all line from to ps qs none p = subst (λ rs. AreBeats line from rs to) (sym (p.pushed ∙ ap (λ rs. rs ++ p.posted) none)) p.beats
