-- Every public call's contract determines its answer and what the lent lists hold at the end, for all inputs: over the contract generated from the source, no second
-- outcome meets it. One statement a call. The view's says it of where the part lies and of what stands there.
use mathlib.Core.Path.{◌≡◌}
use borrow.Fn.Kinds.{Dens, res_t, ended_of}
use contract.Lifetimes.{Lfts}
use denote.Triple.Clauses.{Lasts, at_exit}
use Rattle.whole.specs.Unique.{Unique}
use Rattle.shape.proofs.Unique as shape
use Rattle.shape.proofs.check_shape.Kinds as check-shape-kinds
use Rattle.shape.proofs.check_shape.Reads as check-shape-reads
use Rattle.shape.proofs.Reason.number.Kinds as reason-number-kinds
use Rattle.shape.proofs.Reason.number.Reads as reason-number-reads
use Rattle.shape.proofs.Reason.at.Kinds as reason-at-kinds
use Rattle.shape.proofs.Reason.at.Reads as reason-at-reads
use Rattle.outline.proofs.Unique as outline
use Rattle.outline.proofs.by_weights.Kinds as by-weights-kinds
use Rattle.outline.proofs.by_weights.Reads as by-weights-reads
use Rattle.outline.proofs.by_halving.Kinds as by-halving-kinds
use Rattle.outline.proofs.by_halving.Reads as by-halving-reads
use Rattle.outline.proofs.by_differences.Kinds as by-differences-kinds
use Rattle.outline.proofs.by_differences.Reads as by-differences-reads
use Rattle.outline.proofs.view.Kinds as view-kinds
use Rattle.outline.proofs.view.Reads as view-reads
use Rattle.tolerance.proofs.Unique as tolerance
use Rattle.tolerance.proofs.by_tolerance.Kinds as by-tolerance-kinds
use Rattle.tolerance.proofs.by_tolerance.Reads as by-tolerance-reads
use Rattle.edit.proofs.Unique as edit
use Rattle.edit.proofs.move_record.Kinds as move-record-kinds
use Rattle.edit.proofs.move_record.Reads as move-record-reads
use Rattle.edit.proofs.insert_record.Kinds as insert-record-kinds
use Rattle.edit.proofs.insert_record.Reads as insert-record-reads
use Rattle.edit.proofs.remove_record.Kinds as remove-record-kinds
use Rattle.edit.proofs.remove_record.Reads as remove-record-reads
use Rattle.preview.proofs.Unique as preview
use Rattle.preview.proofs.preview.Kinds as preview-kinds
use Rattle.preview.proofs.preview.Reads as preview-reads
use Rattle.drawing.proofs.Unique as drawing
use Rattle.drawing.proofs.State.new.Kinds as new-kinds
use Rattle.drawing.proofs.State.new.Reads as new-reads
use Rattle.drawing.proofs.State.step.Kinds as step-kinds
use Rattle.drawing.proofs.State.step.Reads as step-reads
use Rattle.doubles.proofs.Unique as doubles
use Rattle.doubles.proofs.double_of.Kinds as double-of-kinds
use Rattle.doubles.proofs.double_of.Reads as double-of-reads
use Rattle.doubles.proofs.midpoint.Kinds as midpoint-kinds
use Rattle.doubles.proofs.midpoint.Reads as midpoint-reads
use Rattle.doubles.proofs.midpoint_pair.Kinds as midpoint-pair-kinds
use Rattle.doubles.proofs.midpoint_pair.Reads as midpoint-pair-reads
use Rattle.doubles.proofs.micrometres.Kinds as micrometres-kinds
use Rattle.doubles.proofs.micrometres.Reads as micrometres-reads
use Rattle.record_file.proofs.Unique as file
use Rattle.record_file.proofs.read.Kinds as read-kinds
use Rattle.record_file.proofs.read.Reads as read-reads
use Rattle.file_list.proofs.Unique as listings
use Rattle.file_list.proofs.parts_of.Kinds as parts-of-kinds
use Rattle.file_list.proofs.parts_of.Reads as parts-of-reads
use Rattle.file_list.proofs.list_part.Kinds as list-part-kinds
use Rattle.file_list.proofs.list_part.Reads as list-part-reads
use Rattle.file_list.proofs.cut_file.Kinds as cut-file-kinds
use Rattle.file_list.proofs.cut_file.Reads as cut-file-reads
use Rattle.listing.proofs.Unique as listing
use Rattle.listing.proofs.put_word.Kinds as put-word-kinds
use Rattle.listing.proofs.put_word.Reads as put-word-reads
use Rattle.listing.proofs.put_natural.Kinds as put-natural-kinds
use Rattle.listing.proofs.put_natural.Reads as put-natural-reads
use Rattle.listing.proofs.put_decimal.Kinds as put-decimal-kinds
use Rattle.listing.proofs.put_decimal.Reads as put-decimal-reads
use Rattle.listing.proofs.list_heading.Kinds as list-heading-kinds
use Rattle.listing.proofs.list_heading.Reads as list-heading-reads
use Rattle.listing.proofs.list_points.Kinds as list-points-kinds
use Rattle.listing.proofs.list_points.Reads as list-points-reads
use Rattle.listing.proofs.list_chosen.Kinds as list-chosen-kinds
use Rattle.listing.proofs.list_chosen.Reads as list-chosen-reads
use Rattle.listing.proofs.list_refusal.Kinds as list-refusal-kinds
use Rattle.listing.proofs.list_refusal.Reads as list-refusal-reads

-- ---- the shape's checks

pub check-shape : Unique 0 check-shape-kinds.ps check-shape-kinds.r check-shape-reads.Post
check-shape = shape.check-shape-unique

pub reason-number : Unique 0 reason-number-kinds.ps reason-number-kinds.r reason-number-reads.Post
reason-number = shape.number-unique

pub reason-at : Unique 0 reason-at-kinds.ps reason-at-kinds.r reason-at-reads.Post
reason-at = shape.at-unique

-- ---- drawing, three ways and by tolerance, and the view

pub by_weights : Unique 2 by-weights-kinds.ps by-weights-kinds.r by-weights-reads.Post
by_weights = outline.by-weights-unique

pub by-halving : Unique 2 by-halving-kinds.ps by-halving-kinds.r by-halving-reads.Post
by-halving = outline.by-halving-unique

pub by-differences : Unique 2 by-differences-kinds.ps by-differences-kinds.r by-differences-reads.Post
by-differences = outline.by-differences-unique

pub by-tolerance : Unique 2 by-tolerance-kinds.ps by-tolerance-kinds.r by-tolerance-reads.Post
by-tolerance = tolerance.by-tolerance-unique

-- where the part lies in memory and what stands there
pub view : (κs : Lfts 1) (a : Dens κs view-kinds.ps) (x y : (res_t view-kinds.r κs).Denot) (u v : Lasts (ended_of 1 view-kinds.ps view-kinds.r) κs a)
    → view-reads.Post κs a x (at_exit (ended_of 1 view-kinds.ps view-kinds.r) κs a u)
    → view-reads.Post κs a y (at_exit (ended_of 1 view-kinds.ps view-kinds.r) κs a v)
    → (x.ref_ptr ≡ y.ref_ptr) × (x.now ≡ y.now) × (u ≡ v)
view = outline.view-unique

-- ---- editing

pub move-record : Unique 2 move-record-kinds.ps move-record-kinds.r move-record-reads.Post
move-record = edit.move-record-unique

pub insert-record : Unique 2 insert-record-kinds.ps insert-record-kinds.r insert-record-reads.Post
insert-record = edit.insert-record-unique

pub remove-record : Unique 2 remove-record-kinds.ps remove-record-kinds.r remove-record-reads.Post
remove-record = edit.remove-record-unique

-- ---- the preview, and exact doubles

pub preview-call : Unique 2 preview-kinds.ps preview-kinds.r preview-reads.Post
preview-call = preview.preview-unique

pub double-of : Unique 0 double-of-kinds.ps double-of-kinds.r double-of-reads.Post
double-of = doubles.double-of-unique

pub midpoint : Unique 0 midpoint-kinds.ps midpoint-kinds.r midpoint-reads.Post
midpoint = doubles.midpoint-unique

pub midpoint-pair : Unique 0 midpoint-pair-kinds.ps midpoint-pair-kinds.r midpoint-pair-reads.Post
midpoint-pair = doubles.midpoint-pair-unique

-- ---- drawing steps, and their numbers

pub new-drawing : Unique 0 new-kinds.ps new-kinds.r new-reads.Post
new-drawing = drawing.new-unique

pub drawing-step : Unique 1 step-kinds.ps step-kinds.r step-reads.Post
drawing-step = drawing.step-unique

pub micrometres : Unique 0 micrometres-kinds.ps micrometres-kinds.r micrometres-reads.Post
micrometres = doubles.micrometres-unique

-- ---- record files

pub read-file : Unique 2 read-kinds.ps read-kinds.r read-reads.Post
read-file = file.read-unique

pub parts-of : Unique 0 parts-of-kinds.ps parts-of-kinds.r parts-of-reads.Post
parts-of = listings.parts-of-unique

pub list-part : Unique 2 list-part-kinds.ps list-part-kinds.r list-part-reads.Post
list-part = listings.list-part-unique

pub cut-file : Unique 2 cut-file-kinds.ps cut-file-kinds.r cut-file-reads.Post
cut-file = listings.cut-file-unique

-- ---- text

pub put_word : Unique 2 put-word-kinds.ps put-word-kinds.r put-word-reads.Post
put_word = listing.put-word-unique

pub put-natural : Unique 1 put-natural-kinds.ps put-natural-kinds.r put-natural-reads.Post
put-natural = listing.put-natural-unique

pub put-decimal : Unique 1 put-decimal-kinds.ps put-decimal-kinds.r put-decimal-reads.Post
put-decimal = listing.put-decimal-unique

pub list-heading : Unique 1 list-heading-kinds.ps list-heading-kinds.r list-heading-reads.Post
list-heading = listing.list-heading-unique

pub list-points : Unique 2 list-points-kinds.ps list-points-kinds.r list-points-reads.Post
list-points = listing.list-points-unique

pub list-chosen : Unique 2 list-chosen-kinds.ps list-chosen-kinds.r list-chosen-reads.Post
list-chosen = listing.list-chosen-unique

pub list-refusal : Unique 1 list-refusal-kinds.ps list-refusal-kinds.r list-refusal-reads.Post
list-refusal = listing.list-refusal-unique
