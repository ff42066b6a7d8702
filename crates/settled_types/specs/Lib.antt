-- Types that are made of some constructors alone.
pub mod Made
