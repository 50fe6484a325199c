-- What was written, stored and taken, after the last turn.
use Rattle.std.proofs.Common.{◌≡◌, ◌⊎◌, ℕ, ◌<◌, ◌^◌, inl, inr, Bool, true, false, List, [], ◌++◌, length}
use Rattle.std.proofs.Common.{refl, sym, ap, ◌∙◌, subst, arith, append_assoc, append-nil, length-append, Option, Some, None, IfSome}
use Rattle.std.specs.List.{filter_map, list_any}
use Rattle.std.specs.Io.KnownBytes.{Appends, Consumes, IsAtEnd}
use Rattle.std.proofs.KnownBytes.{Appends-trans, Consumes-trans}
use Rattle.svr_core.specs.Run.{IsRun, Turn, closes}
use Rattle.svr_core.specs.State.{State}
use Rattle.svr_edge.proofs.CausesLemmas.{Rose-earlier}
use Rattle.svr_edge.specs.Disk.{DiskView}
use Rattle.svr_lines.specs.Lines.{pieces_of}
use Rattle.svr_lines.specs.Reading.{KnowsEnd, Reading, taken_bytes}
use Rattle.svr_request.specs.declared.reply.Fault.TheVariants as fault
use Rattle.svr_request.specs.declared.reply.Reply.{Reply}
use Rattle.svr_request.specs.declared.reply.Reply.TheVariants.{Faulted}
use Rattle.svr_request.specs.Requests.{Submitted}
use Rattle.svr_serve.specs.declared.ending.Ending.{Ending}
use Rattle.svr_serve.specs.declared.ending.Ending.TheVariants.{Complete, Cut, Words, Input, Output, Write, Device, Journal, Memory, Bytes}
use Rattle.svr_store.specs.Store.{KeepsState}
use Rattle.svr_serve.specs.Input.{ends_in_block, is_cut, request_in, requests_of, whole_in, whole_requests}
use Rattle.svr_serve.specs.Program.{Answered, EndsInBlock, GoesOn, SendsAll, Streams, Took, TookLess, lines_of, requests_in}
use Rattle.svr_serve.specs.declared.turn.Turn.TheVariants as turn
use Rattle.svr_serve.specs.Layout.{EndsCut, EndsInput, StopsReading, StopsShort, status_of}
use Rattle.svr_serve.specs.Ran.{Carries, EndsBecause, EndsServing, Ran}
use Rattle.svr_serve.specs.Turning.{HasTurnCauses, IsClosedBy, IsIdle, Standing, StopsTurn, StopsWriting, TurnDoes, TurnReplies}
use Rattle.svr_serve.proofs.Kept.{Kept-idle, Kept-more, Stores-closed, Stores-going, run_more}
use Rattle.svr_serve.proofs.Runs.{lines_of-more}
use Rattle.svr_serve.proofs.SoFar.{Between, IsWhole, SoFar}
use Rattle.svr_serve.proofs.Joins.{ends_in_block-join, requests_of-join, requests_of-none, whole_requests-join}
use Rattle.svr_serve.proofs.Parts.{parts_of-none}
use Rattle.svr_serve.proofs.Turns.{Consumes-ahead, Consumes-reads, all, asked_more, lines_going, next_whole, one}

-- ---- what is left to be read

-- the input, where it is known, by what was handed out, what is ahead and the rest
by_rest : (left now : Option (List ℕ)) (handed ahead : List ℕ) (P : List ℕ → Type 0) → Consumes left now (handed ++ ahead)
    → ((rest : List ℕ) → now ≡ Some rest → P (handed ++ (ahead ++ rest))) → IfSome left P
by_rest None now handed ahead P p f = tt
by_rest (Some input) None handed ahead P p f = absurd p
by_rest (Some input) (Some rest) handed ahead P p f = subst P (sym (append_assoc handed ahead rest) ∙ sym p) (f rest refl)

-- at the end none is left
none_left : (now : Option (List ℕ)) (ahead rest : List ℕ) → ahead ≡ [] → IsAtEnd now → now ≡ Some rest → ahead ++ rest ≡ []
none_left None ahead rest none end known = cc
none_left (Some xs) ahead rest none end known =
    let same : xs ≡ rest = cc in
    ap (λ ys. ys ++ rest) none ∙ sym same ∙ end

by_cases : (b : Bool) (P : Type 0) → (b ≡ true → P) → (b ≡ false → P) → P
by_cases true P f g = f refl
by_cases false P f g = g refl

module _ (lines : Reading) (now : Option (List ℕ)) (handed rest : List ℕ) (w : lines.ended ≡ false → IsWhole handed)
    (k : KnowsEnd lines now) (known : now ≡ Some rest) where
  -- the requests behind what was handed out are the others
  others_behind : requests_of (handed ++ (lines.ahead ++ rest)) ≡ requests_of handed ++ requests_of (lines.ahead ++ rest)
  others_behind =
      by_cases lines.ended (requests_of (handed ++ (lines.ahead ++ rest)) ≡ requests_of handed ++ requests_of (lines.ahead ++ rest))
      (λ is. let none = none_left now lines.ahead rest (k is).0 (k is).1 known in
      ap (λ xs. requests_of (handed ++ xs)) none ∙ ap requests_of (append-nil handed) ∙ sym (append-nil (requests_of handed))
      ∙ ap (λ rs. requests_of handed ++ rs) (sym (requests_of-none (lines.ahead ++ rest) none)))
      (λ is. requests_of-join handed (lines.ahead ++ rest) (w is))

-- the requests that were answered are the first of the input
first_by : (left now : Option (List ℕ)) (lines : Reading) (handed : List ℕ) (requests : List Submitted)
    → Consumes left now (handed ++ lines.ahead) → (lines.ended ≡ false → IsWhole handed) → KnowsEnd lines now → requests ≡ requests_of handed
    → IfSome left (λ input. (others : List Submitted) × (requests_of input ≡ requests ++ others))
first_by left now lines handed requests consumed w k is =
    by_rest left now handed lines.ahead (λ input. (others : List Submitted) × (requests_of input ≡ requests ++ others)) consumed
    (λ rest known. (
      requests_of (lines.ahead ++ rest),
      others_behind lines now handed rest w k known ∙ ap (λ (rs : List Submitted). rs ++ requests_of (lines.ahead ++ rest)) (sym is),
    ))

-- what was handed out last has no request, and no cut block
last_requests : (handed gone rest : List ℕ) → IsWhole handed → pieces_of gone ≡ [] → rest ≡ []
    → requests_of ((handed ++ gone) ++ rest) ≡ requests_of handed
last_requests handed gone rest w none nil = ap (λ xs. requests_of ((handed ++ gone) ++ xs)) nil
    ∙ ap requests_of (append-nil (handed ++ gone)) ∙ requests_of-join handed gone w
    ∙ ap (λ ps. requests_of handed ++ filter_map request_in ps) (parts_of-none gone none) ∙ append-nil (requests_of handed)

last_uncut : (handed gone rest : List ℕ) → IsWhole handed → ends_in_block handed ≡ false → pieces_of gone ≡ [] → rest ≡ []
    → ends_in_block ((handed ++ gone) ++ rest) ≡ false
last_uncut handed gone rest w uncut none nil = ap (λ xs. ends_in_block ((handed ++ gone) ++ xs)) nil
    ∙ ap ends_in_block (append-nil (handed ++ gone)) ∙ ends_in_block-join handed gone w uncut
    ∙ ap (list_any is_cut) (parts_of-none gone none)

-- the end was seen before, and no byte is taken behind it
took_no_more : (a b c : Option (List ℕ)) (xs bytes : List ℕ) (most : ℕ) → Consumes a b xs → IsAtEnd b → Consumes b c bytes
    → length xs < most → TookLess most a c
took_no_more None b c xs bytes most p end q few = ([], tt, omega (arith, few))
took_no_more (Some x) None c xs bytes most p end q few = absurd p
took_no_more (Some x) (Some y) None xs bytes most p end q few = absurd q
took_no_more (Some x) (Some y) (Some z) xs bytes most p end q few = (
  xs ++ bytes,
  Consumes-trans (Some x) (Some y) (Some z) xs bytes p q,
  omega (arith, few, ap length end, ap length q, length-append xs bytes, length-append bytes z),
)

-- ---- which requests were answered

answered_all : (left rest : Option (List ℕ)) (requests : List Submitted) → IsAtEnd rest
    → IfSome left (λ input. (requests ≡ requests_of input) × (ends_in_block input ≡ false)) → Answered 0 left rest requests
answered_all left rest requests end same = record {
  all = λ _. (end, same);
  whole = λ h. elim h [ inl x ↦ cc | inr y ↦ elim y [ inl x ↦ cc | inr x ↦ cc ] ];
  first = λ h. elim h [ inl x ↦ cc | inr y ↦ elim y [ inl x ↦ cc | inr x ↦ cc ] ];
}

abbrev WholeBy : Option (List ℕ) → Option (List ℕ) → List Submitted → Type 0
WholeBy left rest requests = (bytes : List ℕ) × Consumes left rest bytes × (requests ≡ whole_requests bytes)

answered_whole : (status : ℕ) (left rest : Option (List ℕ)) (requests : List Submitted)
    → (status ≡ 1) ⊎ (status ≡ 3) ⊎ (status ≡ 8) → WholeBy left rest requests → Answered status left rest requests
answered_whole status left rest requests is whole = record {
  all = λ h. elim is [ inl x ↦ cc | inr y ↦ elim y [ inl x ↦ cc | inr x ↦ cc ] ];
  whole = λ _. whole;
  first = λ h. elim is [
    | inl x ↦ elim h [ inl z ↦ cc | inr w ↦ elim w [ inl z ↦ cc | inr z ↦ cc ] ]
    | inr y ↦ elim y [
      | inl x ↦ elim h [ inl z ↦ cc | inr w ↦ elim w [ inl z ↦ cc | inr z ↦ cc ] ]
      | inr x ↦ elim h [ inl z ↦ cc | inr w ↦ elim w [ inl z ↦ cc | inr z ↦ cc ] ]
    ]
  ];
}

abbrev FirstOf : Option (List ℕ) → List Submitted → Type 0
FirstOf left requests = IfSome left (λ input. (others : List Submitted) × (requests_of input ≡ requests ++ others))

answered_first : (status : ℕ) (left rest : Option (List ℕ)) (requests : List Submitted)
    → (status ≡ 4) ⊎ (status ≡ 5) ⊎ (status ≡ 7) → FirstOf left requests → Answered status left rest requests
answered_first status left rest requests is first = record {
  all = λ h. elim is [ inl x ↦ cc | inr y ↦ elim y [ inl x ↦ cc | inr x ↦ cc ] ];
  whole = λ h. elim is [
    | inl x ↦ elim h [ inl z ↦ cc | inr w ↦ elim w [ inl z ↦ cc | inr z ↦ cc ] ]
    | inr y ↦ elim y [
      | inl x ↦ elim h [ inl z ↦ cc | inr w ↦ elim w [ inl z ↦ cc | inr z ↦ cc ] ]
      | inr x ↦ elim h [ inl z ↦ cc | inr w ↦ elim w [ inl z ↦ cc | inr z ↦ cc ] ]
    ]
  ];
  first = λ _. first;
}

both : (left : Option (List ℕ)) (requests same : List Submitted) → requests ≡ same → IfSome left (λ input. requests_of input ≡ same)
    → IfSome left (λ input. ends_in_block input ≡ false)
    → IfSome left (λ input. (requests ≡ requests_of input) × (ends_in_block input ≡ false))
both None requests same is whole uncut = tt
both (Some input) requests same is whole uncut = (is ∙ sym whole, uncut)

-- ---- the last turn

-- no request could be read, where the sink and the disk haven't failed and memory isn't wanting
reads_none : (e : Ending) (old new : Standing) → StopsTurn e old new → (e ≡ Output → ⊥) → (e ≡ Memory → ⊥) → (e ≡ Write → ⊥)
    → StopsReading e old.streams.left new.streams.left old.lines new.lines × (new.streams.taken ≡ old.streams.taken)
reads_none e old new p sink memory write = elim p [
  | inl cut ↦ absurd (sink cut.0)
  | inr none ↦ elim none.0 [
    | inl reads ↦ (reads.0, none.1.taken)
    | inr closed ↦ elim closed.1 [ inl w ↦ absurd (write w.0) | inr m ↦ absurd (memory m.0) ]
  ]
]

-- no stop is a complete end
not_complete : (e : Ending) (old new : Standing) → StopsTurn e old new → e ≡ Complete → ⊥
not_complete e old new p is =
    (reads_none Complete old new (subst (λ (x : Ending). StopsTurn x old new) is p) (λ other. cc) (λ other. cc) (λ other. cc)).0

module _ (cache : ℕ) (opening : State) (start : Streams) (disk : DiskView) (old new : Standing) (s : SoFar cache opening start.left start.taken disk old) where
  same_written : new.streams.taken ≡ old.streams.taken → Appends start.taken new.streams.taken (lines_of s.turns)
  same_written silent = subst (λ (w : Option (List ℕ)). Appends start.taken w (lines_of s.turns)) (sym silent) s.written

  -- ---- no request was answered

  ran_idle : (e : Ending) → EndsServing e → (e ≡ Output → ⊥) → (e ≡ Write → ⊥)
      → Answered (status_of e) start.left new.streams.left (requests_in s.turns) → new.streams.taken ≡ old.streams.taken
      → Ran (KeepsState disk opening) e opening s.turns start new.streams
  ran_idle e serving sink write answered silent = record {
    serving = serving;
    run = s.kept.run;
    answered = answered;
    lines = λ _. same_written silent;
    part = λ is. absurd (sink is);
    closed = λ is. absurd (write is);
    going = λ _ _. s.kept.going;
  }

  carries_idle : (e : Ending) → EndsServing e → (e ≡ Output → ⊥) → (e ≡ Write → ⊥)
      → Answered (status_of e) start.left new.streams.left (requests_in s.turns) → new.streams.taken ≡ old.streams.taken
      → IsIdle old.disk new.disk → new.store ≡ old.store → Carries cache e opening start new.streams disk new.disk
  carries_idle e serving sink write answered silent idle same = (
    s.turns,
    ran_idle e serving sink write answered silent,
    Stores-going cache opening s.turns disk new.disk new.store
        (Kept-idle cache opening s.turns disk old.disk new.disk old.store new.store s.kept idle same),
  )

  -- the reader stopped
  whole_short : StopsShort old.streams.left new.streams.left old.lines new.lines → WholeBy start.left new.streams.left (requests_in s.turns)
  whole_short p =
      let ahead = old.lines.ahead ++ p.bytes in (
        s.handed ++ ahead,
        Consumes-ahead start.left old.streams.left new.streams.left s.handed old.lines.ahead p.bytes ahead s.consumed p.consumed refl,
        s.asked ∙ sym (whole_requests-join s.handed ahead (s.whole p.open_end) p.none),
      )

  -- the input ended inside a block
  cut_whole : (p : EndsCut old.streams.left new.streams.left old.lines new.lines) → whole_requests ((s.handed ++ p.gone) ++ new.lines.ahead) ≡ requests_of s.handed
  cut_whole p = ap (λ xs. whole_requests ((s.handed ++ p.gone) ++ xs)) p.last.ahead ∙ ap whole_requests (append-nil (s.handed ++ p.gone))
      ∙ whole_requests-join s.handed p.gone (s.whole p.open_end) (ap (filter_map whole_in) p.part)

  cut_inside : (p : EndsCut old.streams.left new.streams.left old.lines new.lines) → (rest : List ℕ) → new.lines.ahead ++ rest ≡ []
      → ends_in_block ((s.handed ++ p.gone) ++ (new.lines.ahead ++ rest)) ≡ true
  cut_inside p rest none = ap (λ xs. ends_in_block ((s.handed ++ p.gone) ++ xs)) none ∙ ap ends_in_block (append-nil (s.handed ++ p.gone))
      ∙ ends_in_block-join s.handed p.gone (s.whole p.open_end) s.uncut ∙ ap (list_any is_cut) p.part

  consumed_cut : (p : EndsCut old.streams.left new.streams.left old.lines new.lines) → Consumes start.left new.streams.left ((s.handed ++ p.gone) ++ new.lines.ahead)
  consumed_cut p = Consumes-reads start.left old.streams.left new.streams.left old.lines new.lines s.handed p.gone p.bytes s.consumed p.reads

  whole_cut : EndsCut old.streams.left new.streams.left old.lines new.lines → WholeBy start.left new.streams.left (requests_in s.turns)
  whole_cut p = ((s.handed ++ p.gone) ++ new.lines.ahead, consumed_cut p, s.asked ∙ sym (cut_whole p))

  ends_inside : EndsCut old.streams.left new.streams.left old.lines new.lines → EndsInBlock start.left new.streams.left
  ends_inside p = record {
    end = p.last.source;
    cut = by_rest start.left new.streams.left (s.handed ++ p.gone) new.lines.ahead (λ input. ends_in_block input ≡ true) (consumed_cut p)
        (λ rest known. cut_inside p rest (none_left new.streams.left new.lines.ahead rest p.last.ahead p.last.source known));
  }

  carries_reading : (e : Ending) → StopsReading e old.streams.left new.streams.left old.lines new.lines → new.streams.taken ≡ old.streams.taken
      → IsIdle old.disk new.disk → new.store ≡ old.store → Carries cache e opening start new.streams disk new.disk
  carries_reading Input p silent = carries_idle Input tt (λ is. cc) (λ is. cc)
      (answered_whole 3 start.left new.streams.left (requests_in s.turns) (inr (inl refl)) (whole_short p)) silent
  carries_reading Bytes p silent = carries_idle Bytes tt (λ is. cc) (λ is. cc)
      (answered_whole 8 start.left new.streams.left (requests_in s.turns) (inr (inr refl)) (whole_short p)) silent
  carries_reading Cut p silent = carries_idle Cut tt (λ is. cc) (λ is. cc)
      (answered_whole 1 start.left new.streams.left (requests_in s.turns) (inl refl) (whole_cut p)) silent
  carries_reading Memory p silent = carries_idle Memory tt (λ is. cc) (λ is. cc)
      (answered_first 7 start.left new.streams.left (requests_in s.turns) (inr (inr refl))
      (first_by start.left old.streams.left old.lines s.handed (requests_in s.turns) s.consumed s.whole s.known_end s.asked)) silent
  carries_reading Complete p silent = absurd p
  carries_reading Words p silent = absurd p
  carries_reading Output p silent = absurd p
  carries_reading Write p silent = absurd p
  carries_reading Device p silent = absurd p
  carries_reading (Journal at) p silent = absurd p

  -- ---- a request was answered

  module _ (reply : Reply) (r : TurnReplies old new reply) where
    abbrev turns : List Turn
    turns = all cache opening start.left start.taken disk old new s reply r

    first_more : FirstOf start.left (requests_in turns)
    first_more =
        let t = r.takes in
        first_by start.left new.streams.left new.lines (s.handed ++ t.gone) (requests_in turns)
        (Consumes-reads start.left old.streams.left new.streams.left old.lines new.lines s.handed t.gone t.bytes s.consumed t.reads)
        (next_whole cache opening start.left start.taken disk old new s r.request t) t.known_end
        (asked_more cache opening start.left start.taken disk old new s reply r)

    run_all : IsRun (KeepsState disk opening) opening turns
    run_all = run_more cache opening s.turns disk old.disk new.disk old.store new.store s.kept r.request reply
        (one cache opening start.left start.taken disk old new s reply r)

    -- and the store closed by it
    closed_lines : closes reply ≡ true → lines_of turns ≡ lines_of s.turns
    closed_lines closed =
        let t = (one cache opening start.left start.taken disk old new s reply r).turn in
        let is : closes t.reply ≡ true = ap closes (one cache opening start.left start.taken disk old new s reply r).told ∙ closed in
        lines_of-more s.turns t ∙ (rw is (append-nil (lines_of s.turns)))

    is_closed : (e : Ending) → IsClosedBy e reply → closes reply ≡ true
    is_closed e by = elim by [ inl w ↦ ap closes w.1 | inr m ↦ ap closes m.1 ]

    closed_status : (e : Ending) → IsClosedBy e reply → (status_of e ≡ 4) ⊎ (status_of e ≡ 5) ⊎ (status_of e ≡ 7)
    closed_status e by = elim by [ inl w ↦ inr (inl (ap status_of w.0)) | inr m ↦ inr (inr (ap status_of m.0)) ]

    closed_serving : (e : Ending) → IsClosedBy e reply → EndsServing e
    closed_serving e by = elim by [ inl w ↦ subst EndsServing (sym w.0) tt | inr m ↦ subst EndsServing (sym m.0) tt ]

    no_output : (e : Ending) → IsClosedBy e reply → e ≡ Output → ⊥
    no_output e by is = elim by [ inl w ↦ cc | inr m ↦ cc ]

    ends_so : (e : Ending) → IsClosedBy e reply → e ≡ Write → reply ≡ Faulted fault.Write
    ends_so e by is = elim by [ inl w ↦ w.1 | inr m ↦ cc ]

    no_more : (e : Ending) → IsClosedBy e reply → (e ≡ Write → ⊥) → (e ≡ Memory → ⊥) → GoesOn turns
    no_more e by write memory = elim by [ inl w ↦ absurd (write w.0) | inr m ↦ absurd (memory m.0) ]

    carries_closed : (e : Ending) → IsClosedBy e reply → new.streams.taken ≡ old.streams.taken
        → Carries cache e opening start new.streams disk new.disk
    carries_closed e by silent = (
      turns,
      record {
        serving = closed_serving e by;
        run = run_all;
        answered = answered_first (status_of e) start.left new.streams.left (requests_in turns) (closed_status e by) first_more;
        lines = λ _. subst (Appends start.taken new.streams.taken) (sym (closed_lines (is_closed e by))) (same_written silent);
        part = λ is. absurd (no_output e by is);
        closed = λ is. record {
          front = s.turns;
          last = (one cache opening start.left start.taken disk old new s reply r).turn;
          split = refl;
          is = (one cache opening start.left start.taken disk old new s reply r).told ∙ ends_so e by is;
        };
        going = no_more e by;
      },
      Stores-closed cache opening s.turns disk old.disk new.disk old.store new.store s.kept r.request reply
          (one cache opening start.left start.taken disk old new s reply r) (is_closed e by),
    )

  -- the sink failed
  carries_output : StopsWriting old new → Carries cache Output opening start new.streams disk new.disk
  carries_output w =
      let reply = w.reply in
      let r = w.writes.replied in
      let o = one cache opening start.left start.taken disk old new s reply r in
      let lines = lines_going cache opening start.left start.taken disk old new s reply r w.writes.going in
      let k = Kept-more cache opening s.turns disk old.disk new.disk old.store new.store s.kept r.request reply o w.writes.going in (
        turns reply r,
        record {
          serving = tt;
          run = run_all reply r;
          answered = answered_first 4 start.left new.streams.left (requests_in (turns reply r)) (inl refl) (first_more reply r);
          lines = λ no. absurd (no refl);
          part = λ _. (
            lines_of s.turns ++ w.front,
            (
              w.part.0,
              lines ∙ ap (λ ys. lines_of s.turns ++ ys) w.part.1 ∙ sym (append_assoc (lines_of s.turns) w.front w.part.0),
            ),
            Appends-trans start.taken old.streams.taken new.streams.taken (lines_of s.turns) w.front s.written w.writes.bytes,
          );
          closed = λ is. cc;
          going = λ _ _. k.going;
        },
        Stores-going cache opening (turns reply r) disk new.disk new.store k,
      )

  carries_stop : (e : Ending) → StopsTurn e old new → Carries cache e opening start new.streams disk new.disk
  carries_stop e p = elim p [
    | inl cut ↦ subst (λ (x : Ending). Carries cache x opening start new.streams disk new.disk) (sym cut.0) (carries_output cut.1)
    | inr none ↦ elim none.0 [
      | inl reads ↦ carries_reading e reads.0 none.1.taken reads.1 reads.2
      | inr closed ↦ carries_closed closed.0 closed.2 e closed.1 none.1.taken
    ]
  ]

  -- ---- the input ended

  all_requests : (e : EndsInput old.streams.left new.streams.left old.lines new.lines) → IfSome start.left (λ input. requests_of input ≡ requests_of s.handed)
  all_requests e =
      by_cases old.lines.ended (IfSome start.left (λ input. requests_of input ≡ requests_of s.handed))
      (λ is. by_rest start.left old.streams.left s.handed old.lines.ahead (λ input. requests_of input ≡ requests_of s.handed) s.consumed
      (λ rest known. let end = s.known_end is in
      ap (λ xs. requests_of (s.handed ++ xs)) (none_left old.streams.left old.lines.ahead rest end.0 end.1 known)
      ∙ ap requests_of (append-nil s.handed)))
      (λ is. by_rest start.left new.streams.left (s.handed ++ e.gone) new.lines.ahead (λ input. requests_of input ≡ requests_of s.handed)
      (Consumes-reads start.left old.streams.left new.streams.left old.lines new.lines s.handed e.gone e.bytes s.consumed e.reads)
      (λ rest known. last_requests s.handed e.gone (new.lines.ahead ++ rest) (s.whole is) e.none
      (none_left new.streams.left new.lines.ahead rest e.last.ahead e.last.source known)))

  no_cut : (e : EndsInput old.streams.left new.streams.left old.lines new.lines) → IfSome start.left (λ input. ends_in_block input ≡ false)
  no_cut e =
      by_cases old.lines.ended (IfSome start.left (λ input. ends_in_block input ≡ false))
      (λ is. by_rest start.left old.streams.left s.handed old.lines.ahead (λ input. ends_in_block input ≡ false) s.consumed
      (λ rest known. let end = s.known_end is in
      ap (λ xs. ends_in_block (s.handed ++ xs)) (none_left old.streams.left old.lines.ahead rest end.0 end.1 known)
      ∙ ap ends_in_block (append-nil s.handed) ∙ s.uncut))
      (λ is. by_rest start.left new.streams.left (s.handed ++ e.gone) new.lines.ahead (λ input. ends_in_block input ≡ false)
      (Consumes-reads start.left old.streams.left new.streams.left old.lines new.lines s.handed e.gone e.bytes s.consumed e.reads)
      (λ rest known. last_uncut s.handed e.gone (new.lines.ahead ++ rest) (s.whole is) s.uncut e.none
      (none_left new.streams.left new.lines.ahead rest e.last.ahead e.last.source known)))

  carries_end : TurnDoes turn.Ended old new → Carries cache Complete opening start new.streams disk new.disk
  carries_end e = carries_idle Complete tt (λ is. cc) (λ is. cc)
      (answered_all start.left new.streams.left (requests_in s.turns) e.input.last.source
      (both start.left (requests_in s.turns) (requests_of s.handed) s.asked (all_requests e.input) (no_cut e.input)))
      e.silent.taken e.idle e.store

  -- ---- how many bytes were taken

  took_behind : (p : StopsShort old.streams.left new.streams.left old.lines new.lines) → Took (taken_bytes new.lines) start.left new.streams.left
  took_behind p =
      let ahead = old.lines.ahead ++ p.bytes in (
        s.handed ++ ahead,
        Consumes-ahead start.left old.streams.left new.streams.left s.handed old.lines.ahead p.bytes ahead s.consumed p.consumed refl,
        omega (arith, s.count, p.taken, length-append s.handed ahead, length-append old.lines.ahead p.bytes),
      )

  took_all : (e : Ending) → StopsTurn e old new → e ≡ Bytes → taken_bytes new.lines ≡ new.lines.limit
      → Took (2 ^ 40) start.left new.streams.left
  took_all e p is all =
      let r = reads_none Bytes old new (subst (λ (x : Ending). StopsTurn x old new) is p) (λ other. cc) (λ other. cc) (λ other. cc) in
      let took = took_behind r.0 in
      (took.0, took.1, took.2 ∙ all ∙ r.0.limit ∙ s.limit)

  took_cut : EndsCut old.streams.left new.streams.left old.lines new.lines → TookLess (2 ^ 40) start.left new.streams.left
  took_cut p = (
    (s.handed ++ p.gone) ++ new.lines.ahead,
    consumed_cut p,
    omega (
      arith,
      s.count,
      p.reads.handed,
      p.before_limit,
      p.reads.limit,
      s.limit,
      length-append (s.handed ++ p.gone) new.lines.ahead,
      length-append s.handed p.gone,
    ),
  )

  took_less : (e : Ending) → StopsTurn e old new → (e ≡ Complete) ⊎ (e ≡ Cut) ⊎ (e ≡ Input)
      → (e ≡ Input → taken_bytes new.lines < new.lines.limit) → TookLess (2 ^ 40) start.left new.streams.left
  took_less e p by less = elim by [
    | inl complete ↦ absurd (not_complete e old new p complete)
    | inr other ↦ elim other [
      | inl is ↦ took_cut (reads_none Cut old new (subst (λ (x : Ending). StopsTurn x old new) is p) (λ other. cc) (λ other. cc) (λ other. cc)).0
      | inr is ↦
          let r = reads_none Input old new (subst (λ (x : Ending). StopsTurn x old new) is p) (λ other. cc) (λ other. cc) (λ other. cc) in
          let took = took_behind r.0 in
          (took.0, took.1, omega (arith, took.2, less is, r.0.limit, s.limit))
    ]
  ]

  took_to_end : EndsInput old.streams.left new.streams.left old.lines new.lines → TookLess (2 ^ 40) start.left new.streams.left
  took_to_end e = by_cases old.lines.ended (TookLess (2 ^ 40) start.left new.streams.left)
      (λ is. took_no_more start.left old.streams.left new.streams.left (s.handed ++ old.lines.ahead) e.bytes (2 ^ 40) s.consumed (s.known_end is).1
      e.reads.consumed (omega (arith, s.count, s.before_limit is, length-append s.handed old.lines.ahead)))
      (λ is. (
        (s.handed ++ e.gone) ++ new.lines.ahead,
        Consumes-reads start.left old.streams.left new.streams.left old.lines new.lines s.handed e.gone e.bytes s.consumed e.reads,
        omega (
          arith,
          s.count,
          e.reads.handed,
          e.before_limit is,
          e.reads.limit,
          s.limit,
          length-append (s.handed ++ e.gone) new.lines.ahead,
          length-append s.handed e.gone,
        ),
      ))

-- ---- how serving ends

module _ (cache : ℕ) (opening : State) (start : Streams) (disk : DiskView) (old new : Standing) (b : Between cache opening start disk old) where
  pub ends_complete : TurnDoes turn.Ended old new → HasTurnCauses turn.Ended old new
      → Carries cache Complete opening start new.streams disk new.disk × EndsBecause Complete start new.streams disk new.disk
  ends_complete done causes = (
    carries_end cache opening start disk old new b.so_far done,
    record {
      sent = λ first. inl (done.silent.sent ∙ b.sent first ∙ sym done.silent.taken);
      later = omega (arith, b.writes_later, causes.writes_later);
      cut = λ is. cc;
      input = λ is. cc;
      output = λ is. cc;
      write = λ is. cc;
      bytes = λ is. cc;
      before_limit = λ _. took_to_end cache opening start disk old new b.so_far done.input;
    },
  )

  sends_all : (e : Ending) → StopsTurn e old new → HasTurnCauses (turn.Stop e) old new → SendsAll start new.streams
  sends_all e done causes first = elim done [
    | inl cut ↦ inr (Rose-earlier start.failed_writes old.streams.failed_writes new.streams.failed_writes b.writes_later
        (causes.output (ap turn.Stop cut.0)))
    | inr none ↦ inl (none.1.sent ∙ b.sent first ∙ sym none.1.taken)
  ]

  ends_cut : (e : Ending) → StopsTurn e old new → e ≡ Cut → EndsInBlock start.left new.streams.left
  ends_cut e done is = ends_inside cache opening start disk old new b.so_far
      (reads_none Cut old new (subst (λ (x : Ending). StopsTurn x old new) is done) (λ other. cc) (λ other. cc) (λ other. cc)).0

  pub ends_stop : (e : Ending) → TurnDoes (turn.Stop e) old new → HasTurnCauses (turn.Stop e) old new
      → Carries cache e opening start new.streams disk new.disk × EndsBecause e start new.streams disk new.disk
  ends_stop e done causes = (
    carries_stop cache opening start disk old new b.so_far e done,
    record {
      sent = sends_all e done causes;
      later = omega (arith, b.writes_later, causes.writes_later);
      cut = ends_cut e done;
      input = λ is. Rose-earlier start.failed_reads old.streams.failed_reads new.streams.failed_reads b.reads_later
          (causes.input (ap turn.Stop is)).0;
      output = λ is. Rose-earlier start.failed_writes old.streams.failed_writes new.streams.failed_writes b.writes_later
          (causes.output (ap turn.Stop is));
      write = λ is. Rose-earlier disk.write_faults old.disk.write_faults new.disk.write_faults b.disk_later
          (causes.write (ap turn.Stop is));
      bytes = λ is. took_all cache opening start disk old new b.so_far e done is (causes.bytes (ap turn.Stop is));
      before_limit = λ by. took_less cache opening start disk old new b.so_far e done by (λ is. (causes.input (ap turn.Stop is)).1);
    },
  )
