-- `paged::read_through` meets its contract: the reader before line i is the one that has read i lines. Assumes nothing.
use Rattle.std.proofs.Common.{◌≡◌, ℕ, ◌+◌, ◌<◌, ◌≤◌, List, [], length, get_or, set, sym, ap, ◌∙◌, subst, arith}
use Rattle.concordance.specs.Text.{lines_of}
use Rattle.concordance.specs.Verdicts.{number_on}
use Rattle.reader.specs.declared.Reader.{Reader}
use Rattle.reader.specs.Readers.{NextLine}
use Rattle.drawer.proofs.Mid.{mid, mid_none, mid-next}
use Rattle.paged.proofs.Turns.{rd, rd-zero, rd_next, said-next, all_said}
use Rattle.paged.proofs.read_through.Goals as goal

pub loop-i-init : goal.loop-i-init
loop-i-init c =
    record {
      so_far = sym (mid_none number_on (lines_of c.args.text.now) c.args.out.now);
      of_text = ap (λ (r : Reader). r.text.now) c.start-r.ensures;
      so_many =
          c.start-r.ensures
          ∙ rd-zero c.args.text
          ∙ ap (λ t. rd t 0) (sym (ap (λ (r : Reader). r.text) c.start-r.ensures));
    }

pub loop-i-preserved : goal.loop-i-preserved
loop-i-preserved c =
    let i = c.loop-i.i in
    let t = c.loop-i.r.text in
    let w = c.loop-i.invariant in
    let ds = lines_of c.args.text.now in
    let less : i < length ds = omega (arith, c.requires.1) in
    let short : length t.now ≤ 65536 = subst (λ (s : List ℕ). length s ≤ 65536) (sym w.of_text) c.requires.0 in
    let here : i < length (lines_of t.now) = subst (λ (s : List ℕ). i < length (lines_of s)) (sym w.of_text) less in
    let step : NextLine (rd t i) c.next_line.new.r c.next_line.result =
    subst (λ (r : Reader). NextLine r c.next_line.new.r c.next_line.result) w.so_many c.next_line.ensures in
    let said : c.said_number.result ≡ number_on (get_or ds i []) =
    c.said_number.ensures
    ∙ said-next t short i here c.next_line.new.r c.next_line.result step
    ∙ ap (λ (s : List ℕ). number_on (get_or (lines_of s) i [])) w.of_text in
    record {
      so_far =
          ap (λ (v : List ℕ). set v i c.said_number.result) w.so_far
          ∙ mid-next number_on ds c.args.out.now i [] c.said_number.result said less (omega (arith, c.requires.2));
      of_text = ap (λ t. t.now) c.next_line.ensures.text ∙ w.of_text;
      so_many =
          rd_next t short i here c.next_line.new.r c.next_line.result step
          ∙ ap (λ t. rd t (i + 1)) (sym c.next_line.ensures.text);
    }

pub returns : goal.returns
returns c =
    let all : c.loop-i.i ≡ c.args.n = omega arith in
    c.loop-i.invariant.so_far
    ∙ ap (mid number_on (lines_of c.args.text.now) c.args.out.now) all
    ∙ all_said c.args.text.now c.args.out.now c.args.n c.requires.1 c.requires.2
