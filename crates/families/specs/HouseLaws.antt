-- Separation makes the house pile keep static conflicts apart. It proves, and assumes nothing.
use Rattle.families.specs.House.{house_rules, KeepsApart}

pub house-apart : KeepsApart house_rules
house-apart t c all = all.1.0.statically
