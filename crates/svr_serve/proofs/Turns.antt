-- What holds between two turns: at the start, and after one that served a request.
use Rattle.std.proofs.Common.{◌≡◌, ℕ, ◌≤◌, inl, inr, Bool, true, false, List, [], ◌∷◌}
use Rattle.std.proofs.Common.{◌++◌, refl, sym, ap, ◌∙◌, subst, arith, append_assoc, length-append, Option}
use Rattle.std.specs.Io.KnownBytes.{Appends, Consumes}
use Rattle.std.proofs.KnownBytes.{Appends-nil, Appends-trans, Consumes-nil, Consumes-trans}
use Rattle.svr_core.specs.Run.{Turn, closes, state_in_end}
use Rattle.svr_core.specs.State.{State}
use Rattle.svr_edge.specs.Disk.{DiskView}
use Rattle.svr_lines.specs.Reading.{Reading, Reads, taken_bytes}
use Rattle.svr_request.specs.declared.reply.Reply.{Reply}
use Rattle.svr_request.specs.Replies.{text_of}
use Rattle.svr_request.specs.Requests.{Submitted}
use Rattle.svr_store.specs.Store.{Serves}
use Rattle.svr_store.specs.Submitting.{Submits}
use Rattle.svr_serve.specs.Input.{requests_of}
use Rattle.svr_serve.specs.declared.session.Session.{Session}
use Rattle.svr_serve.specs.declared.turn.Turn.TheVariants as turn
use Rattle.svr_serve.specs.Layout.{TakesRequest}
use Rattle.svr_serve.specs.Program.{Streams, lines_of, requests_in}
use Rattle.svr_serve.specs.Turning.{HasTurnCauses, IsNew, Standing, TurnDoes, TurnReplies, Writes, standing}
use Rattle.svr_serve.proofs.Kept.{Kept-more, Kept-start}
use Rattle.svr_serve.proofs.SoFar.{Between, IsWhole, SoFar}
use Rattle.svr_serve.proofs.Joins.{IsWhole-more, IsWhole-nil, ends_in_block-more, ends_in_block-nil, requests_of-more, requests_of-none}
use Rattle.svr_serve.proofs.Runs.{lines_of-more, requests_in-more}

-- ---- the start

not_both : (b : Bool) → b ≡ true → b ≡ false → ⊥
not_both b h k = cc

module _ (cache : ℕ) (opening : State) (start : Streams) (disk : DiskView) (session : Session) (new : IsNew session disk)
    (capacity : session.store.pages.capacity ≡ cache) (serves : Serves session.store opening) where
  SoFar-start : SoFar cache opening start.left start.taken disk (standing start disk session.lines session.store)
  SoFar-start =
      let lines = session.lines in
      let open_end = ap (λ (r : Reading). r.ended) new.lines in record {
        handed = [];
        consumed = subst (λ (xs : List ℕ). Consumes start.left start.left xs) (sym (ap (λ (r : Reading). r.ahead) new.lines)) (Consumes-nil start.left);
        count = ap (λ (r : Reading). r.handed) new.lines;
        few = omega (arith, ap taken_bytes new.lines);
        limit = ap (λ (r : Reading). r.limit) new.lines;
        whole = λ _. IsWhole-nil;
        uncut = ends_in_block-nil;
        known_end = λ is. absurd (not_both lines.ended is open_end);
        before_limit = λ is. absurd (not_both lines.ended is open_end);
        turns = [];
        asked = sym (requests_of-none [] refl);
        kept = Kept-start cache opening disk session.store serves new.uncached capacity;
        written = Appends-nil start.taken;
      }

  pub Between-start : Between cache opening start disk (standing start disk session.lines session.store)
  Between-start = record {
    so_far = SoFar-start;
    sent = λ first. first;
    reads_later = omega arith;
    writes_later = omega arith;
    disk_later = omega arith;
  }

-- ---- more bytes were read

-- behind the bytes that were handed out
pub Consumes-ahead : (a b c : Option (List ℕ)) (handed ahead bytes rest : List ℕ) → Consumes a b (handed ++ ahead)
    → Consumes b c bytes → rest ≡ ahead ++ bytes → Consumes a c (handed ++ rest)
Consumes-ahead a b c handed ahead bytes rest p q is =
    subst (Consumes a c) (append_assoc handed ahead bytes ∙ ap (λ xs. handed ++ xs) (sym is))
    (Consumes-trans a b c (handed ++ ahead) bytes p q)

-- and some of them were handed out
pub Consumes-reads : (a b c : Option (List ℕ)) (old new : Reading) (handed gone bytes : List ℕ) → Consumes a b (handed ++ old.ahead)
    → Reads b c old new gone bytes → Consumes a c ((handed ++ gone) ++ new.ahead)
Consumes-reads a b c old new handed gone bytes p r = subst (Consumes a c) (sym (append_assoc handed gone new.ahead))
    (Consumes-ahead a b c handed old.ahead bytes (gone ++ new.ahead) p r.consumed r.ahead)

-- ---- one request more

module _ (cache : ℕ) (opening : State) (left taken : Option (List ℕ)) (disk : DiskView) (old new : Standing) (s : SoFar cache opening left taken disk old) where
  next_requests : (request : Submitted) (t : TakesRequest old.streams.left new.streams.left old.lines new.lines request)
      → requests_of (s.handed ++ t.gone) ≡ requests_of s.handed ++ request ∷ []
  next_requests request t = requests_of-more s.handed t.gone request (s.whole t.open_end) t.part

  pub next_whole : (request : Submitted) (t : TakesRequest old.streams.left new.streams.left old.lines new.lines request)
      → new.lines.ended ≡ false → IsWhole (s.handed ++ t.gone)
  next_whole request t is = elim t.part [
    | inl holds ↦ IsWhole-more s.handed t.gone request (s.whole t.open_end) holds
    | inr end ↦ absurd (not_both new.lines.ended end.0.ended is)
  ]

  module _ (reply : Reply) (r : TurnReplies old new reply) where
    abbrev pub one : Submits old.disk new.disk old.store new.store (state_in_end opening s.turns) r.request reply
    one = r.answers.submits (state_in_end opening s.turns) s.kept.serves

    abbrev pub all : List Turn
    all = s.turns ++ one.turn ∷ []

    pub asked_more : requests_in all ≡ requests_of (s.handed ++ r.takes.gone)
    asked_more = requests_in-more s.turns one.turn ∙ ap (λ (rs : List Submitted). rs ++ one.turn.request ∷ []) s.asked
        ∙ ap (λ (q : Submitted). requests_of s.handed ++ q ∷ []) one.asked ∙ sym (next_requests r.request r.takes)

    pub lines_going : closes reply ≡ false → lines_of all ≡ lines_of s.turns ++ text_of reply
    lines_going going =
        let is : closes one.turn.reply ≡ false = ap closes one.told ∙ going in
        lines_of-more s.turns one.turn ∙ (rw is (ap (λ (p : Reply). lines_of s.turns ++ text_of p) one.told))

    SoFar-more : Writes old new reply (text_of reply) → taken_bytes new.lines ≤ new.lines.limit → SoFar cache opening left taken disk new
    SoFar-more w few =
        let t = r.takes in
        let limit = t.reads.limit ∙ s.limit in record {
          handed = s.handed ++ t.gone;
          consumed = Consumes-reads left old.streams.left new.streams.left old.lines new.lines s.handed t.gone t.bytes s.consumed t.reads;
          count = omega (arith, s.count, t.reads.handed, length-append s.handed t.gone);
          few = omega (arith, few, limit);
          limit = limit;
          whole = next_whole r.request t;
          uncut = ends_in_block-more s.handed t.gone r.request (s.whole t.open_end) t.part s.uncut;
          known_end = t.known_end;
          before_limit = λ is. omega (arith, t.before_limit is, limit);
          turns = all;
          asked = asked_more;
          kept = Kept-more cache opening s.turns disk old.disk new.disk old.store new.store s.kept r.request reply one w.going;
          written = subst (Appends taken new.streams.taken) (sym (lines_going w.going))
              (Appends-trans taken old.streams.taken new.streams.taken (lines_of s.turns) (text_of reply) s.written w.bytes);
        }

-- a turn that served a request
pub Between-more : (cache : ℕ) (opening : State) (start : Streams) (disk : DiskView) (old new : Standing) → Between cache opening start disk old
    → TurnDoes turn.Served old new → HasTurnCauses turn.Served old new → Between cache opening start disk new
Between-more cache opening start disk old new b done causes = record {
  so_far = SoFar-more cache opening start.left start.taken disk old new b.so_far done.reply done.writes.replied done.writes causes.few;
  sent = λ first. done.sent;
  reads_later = omega (arith, b.reads_later, causes.reads_later);
  writes_later = omega (arith, b.writes_later, causes.writes_later);
  disk_later = omega (arith, b.disk_later, causes.disk_later);
}
