use Rattle.lam_query.proofs.analyses.Analysis.new.Goals as goal

pub read-requires-clause-read : goal.read-requires-clause-read
read-requires-clause-read c = c.in_ok-analyst.ensures.read c.args.text.now

-- only the size of the tables is set
pub returns-clause-of : goal.returns-clause-of
returns-clause-of c =
    let h = c.in_ok-analysis.ensures.of in
    record {
      is_text = h.is_text;
      ended = h.ended;
      last = h.last;
      made_up = h.made_up;
      sight = h.sight;
      rows = h.rows;
      large = h.large;
      syntax = h.syntax;
      found = h.found;
      sound = h.sound;
      dialect = h.dialect;
      numbers = h.numbers;
    }
