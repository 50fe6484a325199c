-- Words of private clauses: what a search over the pages of a disk comes to.
use Rattle.std.specs.Prelude.{◌≡◌, ◌⊎◌, ◌≤◌, ℕ, List, map, Result, Ok, Err, Contains}
use Rattle.std.specs.List.{sum_by}
use Rattle.std.specs.Option.{option_map}
use Rattle.std.specs.Prelude.{take}
use Rattle.svr_edge.specs.Causes.{Rose}
use Rattle.svr_edge.specs.Disk.{DiskView}
use Rattle.svr_iter.specs.declared.fault.ScanFault.{ScanFault}
use Rattle.svr_iter.specs.declared.fault.ScanFault.TheVariants as scan
use Rattle.svr_pages.specs.Cached.{CachedPages}
use Rattle.svr_pages.specs.Stretch.{IsCached, ReadsInTurn}
use Rattle.svr_postpage.specs.declared.page_ref.PageFault.TheVariants as page
use Rattle.svr_request.specs.declared.refusal.Refusal.TheVariants as refusal
use Rattle.svr_request.specs.declared.reply.Fault.TheVariants as fault
use Rattle.svr_request.specs.declared.reply.Reply.{Reply}
use Rattle.svr_request.specs.declared.reply.Reply.TheVariants.{Faulted, Found, Refused}
use Rattle.svr_topk.specs.declared.search.Answer.{Answer}
use Rattle.svr_core.specs.declared.queries.Query.{Query}
use Rattle.svr_core.specs.Answers.{answer_in}
use Rattle.svr_core.specs.Kept.{CoreValue, ServesAs}
use Rattle.svr_core.specs.Merges.{IsKnown}
use Rattle.svr_core.specs.Reads.{IsFound}
use Rattle.svr_core.specs.Run.{pages_needed}
use Rattle.svr_core.specs.State.{Served}
use Rattle.svr_store.specs.Caching.{KeepsPages}

-- the reply to a search that came out so
abbrev pub reply_of : Result Answer ScanFault → Reply
reply_of (Ok answer) = Found answer
reply_of (Err scan.Memory) = Refused refusal.Memory
reply_of (Err (scan.Page page.Read)) = Faulted fault.Read
reply_of (Err (scan.Page (page.Damaged at why))) = Faulted (fault.Damaged at)

-- this is the answer, where the posted pairs are told, and no page is damaged there
abbrev pub CameTo : Type 0 → Answer → Reply → Type 0
CameTo held due (Found answer) = held → answer ≡ due
CameTo held due (Refused refusal.Memory) = Unit {0}
CameTo held due (Faulted fault.Read) = Unit {0}
CameTo held due (Faulted (fault.Damaged at)) = held → ⊥
CameTo held due _ = ⊥

-- such a reply
abbrev pub IsToSearch : Reply → Type 0
IsToSearch (Found answer) = Unit {0}
IsToSearch (Refused refusal.Memory) = Unit {0}
IsToSearch (Faulted fault.Read) = Unit {0}
IsToSearch (Faulted (fault.Damaged at)) = Unit {0}
IsToSearch _ = ⊥

-- a search was replied to so, and these reads of pages below a place were made for it, beside those that are cached
pub record Finds (core : CoreValue) (q : Query) (reach : ℕ) (old new : DiskView) (pages kept : CachedPages) (reply : Reply) : Type 0 where
  pub reads : List ℕ
  pub disk : ReadsInTurn reads old new
  pub came : (s : Served) → ServesAs core s → CameTo (IsKnown (option_map (take reach) old.content) s) (answer_in s q.terms q.mode q.k) reply
  pub needed : (s : Served) → ServesAs core s → IsKnown (option_map (take reach) old.content) s
      → (weight : ℕ → ℕ) → sum_by weight reads ≤ sum_by weight (map (λ page. page.at) (pages_needed s.listed.listing q.terms q.mode q.k))
  pub keeps : KeepsPages reads pages kept
  pub each : (s : Served) → ServesAs core s → IsKnown (option_map (take reach) old.content) s → IsFound reply → (at : ℕ)
      → Contains (map (λ page. page.at) (pages_needed s.listed.listing q.terms q.mode q.k)) at → Contains reads at ⊎ IsCached at pages
  pub exact : (s : Served) → ServesAs core s → IsKnown (option_map (take reach) old.content) s → IsFound reply → pages.capacity ≡ 0
      → (weight : ℕ → ℕ) → sum_by weight reads ≡ sum_by weight (map (λ page. page.at) (pages_needed s.listed.listing q.terms q.mode q.k))
  pub read : reply ≡ Faulted fault.Read → Rose old.read_faults new.read_faults
